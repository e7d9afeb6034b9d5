-- What the working view has under a name.
use Rattle.std.proofs.Common.{◌≡◌, ℕ, List, [], Bool, true, false, not, ◌&&◌, ◌||◌, refl, sym, ap, ◌∙◌, Some, None, Option}
use Rattle.std.specs.Prelude.{is_some, option_map, option_and_then, unwrap_or, if◌then◌else◌}
use Rattle.std.specs.Option.{option_map_or}
use Rattle.name_rules.specs.Options.{is_some_and}
use Rattle.name_rules.proofs.NameLemmas.{same-true}
use Rattle.ck_base.specs.declared.scope.Scope.{Scope}
use Rattle.share_records.specs.ShareLists.{first_share}
use Rattle.record_model.specs.declared.draft.Draft.{Draft}
use Rattle.record_model.specs.declared.records.Body.{Body}
use Rattle.record_model.specs.declared.records.Body.TheVariants.{Plain, Share}
use Rattle.record_model.specs.declared.records.Record.{Record}
use Rattle.record_model.specs.RecordForms.{is_share_type, share_in}
use Rattle.zone_model.specs.Records.{record_at, is_there, is_share}
use Rattle.zone_model.specs.Ancestry.{parent_at}
use Rattle.zone_model.specs.Sharing.{share_after}
use Rattle.zone_model.specs.Requests.{NamedOp, makes_new, changes_old, new_parent, has_share_type, root_given, puts_in}
use Rattle.zone_model.specs.Putting.{new_record, changed_record, written_over, body_after}
use Rattle.zone_model.specs.Working.{mark_of, with_puts, working_view}
use Rattle.zone_laws.proofs.JudgeLaws.{there-found}
use Rattle.zone_laws.proofs.AncestryLaws.{parent_of-record}
use Rattle.zone_laws.proofs.WorkingLaws.{put_at, put_over, found-working}
use Rattle.zone_laws.proofs.CoreLaws.{put-name}
use Rattle.zone_judging.specs.Made.{maker, is_plain, is_plain_made}

-- what judging asks of a record that is put or not: its parent, whether it is a share, and its type
abbrev Look : Type 0
Look = Option (List ℕ) × (Bool × List ℕ)

abbrev look : Record → Look
look r = (r.parent, (is_share r, r.rtype))

abbrev look_by : Option Record → Option NamedOp → Option Look
look_by (Some v) m = Some (look v)
look_by None m = option_map (λ (p : NamedOp). look (new_record p)) m

same_share : (b : Body) (d : Draft) → is_some (share_in (body_after b d)) ≡ is_some (share_in b)
same_share Plain d = refl
same_share (Share s) d = refl

changed_by : (b : Bool) (p : NamedOp) (v : Record) → option_map look (option_map_or Some (if b then Some (changed_record p v) else None) (Some v)) ≡ Some (look v)
changed_by true p v = ap (λ s. Some (v.parent, (s, v.rtype))) (same_share v.body p.draft)
changed_by false p v = refl

made_by : (b : Bool) (p : NamedOp) → option_map look (option_map_or Some (if b then Some (new_record p) else None) None) ≡ option_map (λ (q : NamedOp). look (new_record q)) (if b then Some p else None)
made_by true p = refl
made_by false p = refl

put_by : (seen : List Record) (p : NamedOp) (o : Option Record) → record_at seen p.name ≡ o → option_map look (put_over seen (Some p) o) ≡ look_by o (if makes_new p.kind then Some p else None)
put_by seen p None at = ap (λ w. option_map look (option_map_or Some (written_over p w) None)) at ∙ made_by (makes_new p.kind) p
put_by seen p (Some v) at = ap (λ w. option_map look (option_map_or Some (written_over p w) (Some v))) at ∙ changed_by (changes_old p.kind) p v

over_by : (seen : List Record) (ops : List NamedOp) (x : List ℕ) (i : Option NamedOp) (o : Option Record) → put_at (puts_in ops) x ≡ i → record_at seen x ≡ o
    → option_map look (put_over seen i o) ≡ look_by o (option_and_then (λ (p : NamedOp). if makes_new p.kind then Some p else None) i)
over_by seen ops x None None is at = refl
over_by seen ops x None (Some v) is at = refl
over_by seen ops x (Some p) o is at = put_by seen p o (ap (record_at seen) (sym (same-true x p.name (put-name (puts_in ops) x p is))) ∙ at)

unmarked : (f : Record → Option (List ℕ)) (o : Option Record) → option_map look (option_map (λ (r : Record). record r { share = f r }) o) ≡ option_map look o
unmarked f None = refl
unmarked f (Some r) = refl

look_at : (scope : Scope) (seen : List Record) (ops : List NamedOp) (x : List ℕ) → option_map look (record_at (working_view scope seen ops) x) ≡ look_by (record_at seen x) (maker ops x)
look_at scope seen ops x = ap (option_map look) (found-working seen scope ops x)
    ∙ unmarked (mark_of scope seen ops (with_puts seen ops)) (put_over seen (put_at (puts_in ops) x) (record_at seen x))
    ∙ over_by seen ops x (put_at (puts_in ops) x) (record_at seen x) refl refl

-- ---- it is there

some_look : (o : Option Record) → is_some o ≡ is_some (option_map look o)
some_look None = refl
some_look (Some r) = refl

there_by : (o : Option Record) (m : Option NamedOp) → is_some (look_by o m) ≡ (is_some o || is_some m)
there_by (Some v) m = refl
there_by None None = refl
there_by None (Some p) = refl

pub working_told : (scope : Scope) (seen : List Record) (ops : List NamedOp) (x : List ℕ) → is_there (working_view scope seen ops) x ≡ (is_there seen x || is_some (maker ops x))
working_told scope seen ops x = there-found (working_view scope seen ops) x ∙ some_look (record_at (working_view scope seen ops) x) ∙ ap is_some (look_at scope seen ops x)
    ∙ there_by (record_at seen x) (maker ops x) ∙ ap (λ b. b || is_some (maker ops x)) (sym (there-found seen x))

-- ---- it is plain

plain_looked : (o : Option Record) → is_some_and is_plain o ≡ is_some_and (λ (l : Look). not l.1.0 && not (is_share_type l.1.1)) (option_map look o)
plain_looked None = refl
plain_looked (Some r) = refl

body_plain : (b : Bool) (o : Option (List ℕ)) (d : Draft) (guid : List ℕ)
    → (not (is_some (share_in (if b then option_map_or (λ root. Share (share_after (first_share root guid) d)) o Plain else Plain))) && not b) ≡ not b
body_plain true None d guid = refl
body_plain true (Some x) d guid = refl
body_plain false o d guid = refl

typed : (t : Option (List ℕ)) → is_share_type (unwrap_or t []) ≡ is_some_and is_share_type t
typed None = refl
typed (Some t) = refl

made_plain : (p : NamedOp) → is_plain (new_record p) ≡ is_plain_made p
made_plain p = ap (λ b. not (is_share (new_record p)) && not b) (typed p.draft.rtype) ∙ body_plain (has_share_type p.draft) (root_given p.draft) p.draft p.guid

abbrev pub plain_by : Option Record → Option NamedOp → Bool
plain_by (Some v) m = is_plain v
plain_by None m = is_some_and is_plain_made m

plain_from : (o : Option Record) (m : Option NamedOp) → is_some_and (λ (l : Look). not l.1.0 && not (is_share_type l.1.1)) (look_by o m) ≡ plain_by o m
plain_from (Some v) m = refl
plain_from None None = refl
plain_from None (Some p) = made_plain p

pub plain_told : (scope : Scope) (seen : List Record) (ops : List NamedOp) (x : List ℕ) → is_some_and is_plain (record_at (working_view scope seen ops) x) ≡ plain_by (record_at seen x) (maker ops x)
plain_told scope seen ops x = plain_looked (record_at (working_view scope seen ops) x)
    ∙ ap (is_some_and (λ (l : Look). not l.1.0 && not (is_share_type l.1.1))) (look_at scope seen ops x) ∙ plain_from (record_at seen x) (maker ops x)

-- ---- its parent

parent_looked : (o : Option Record) → option_and_then (λ (r : Record). r.parent) o ≡ option_and_then (λ (l : Look). l.0) (option_map look o)
parent_looked None = refl
parent_looked (Some r) = refl

abbrev pub parent_by : Option Record → Option NamedOp → Option (List ℕ)
parent_by (Some v) m = v.parent
parent_by None m = option_and_then (λ (p : NamedOp). new_parent p.draft) m

parent_from : (o : Option Record) (m : Option NamedOp) → option_and_then (λ (l : Look). l.0) (look_by o m) ≡ parent_by o m
parent_from (Some v) m = refl
parent_from None None = refl
parent_from None (Some p) = refl

pub parent_told : (scope : Scope) (seen : List Record) (ops : List NamedOp) (x : List ℕ) → parent_at (working_view scope seen ops) x ≡ parent_by (record_at seen x) (maker ops x)
parent_told scope seen ops x = parent_of-record (working_view scope seen ops) x ∙ parent_looked (record_at (working_view scope seen ops) x)
    ∙ ap (option_and_then (λ (l : Look). l.0)) (look_at scope seen ops x) ∙ parent_from (record_at seen x) (maker ops x)
