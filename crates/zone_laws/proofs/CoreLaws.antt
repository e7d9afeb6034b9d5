-- What puts, marks and leaving a share keep of a record: its parent, its root where it is a share, and its fields.
use Rattle.std.proofs.Common.{◌≡◌, ℕ, List, [], ◌∷◌, Bool, true, false, cond, refl, sym, ap, ◌∙◌, subst, Some, None, Option}
use Rattle.std.specs.Prelude.{is_some, option_map, if◌then◌else◌}
use Rattle.std.specs.Option.{option_map_or}
use Rattle.std.proofs.lemmas.Bool.{both_ways}
use Rattle.std.proofs.lemmas.Option.{same_Some}
use Rattle.ck_base.specs.declared.scope.Scope.{Scope}
use Rattle.record_model.specs.declared.value.Value.{Value}
use Rattle.share_records.specs.declared.share.Share.{Share as ShareOf}
use Rattle.record_model.specs.declared.draft.Draft.{Draft}
use Rattle.record_model.specs.declared.records.Record.{Record}
use Rattle.record_model.specs.declared.records.Body.{Body}
use Rattle.record_model.specs.declared.records.Body.TheVariants.{Plain, Share}
use Rattle.zone_model.specs.Names.{same}
use Rattle.name_rules.specs.Options.{is_some_and, or_else}
use Rattle.record_model.specs.RecordForms.{share_in}
use Rattle.zone_model.specs.Records.{record_at, is_share, IsAscending}
use Rattle.zone_model.specs.Requests.{NamedOp, makes_new, changes_old, puts_in, has_share_type, root_given}
use Rattle.zone_model.specs.Sharing.{share_after}
use Rattle.share_records.specs.ShareLists.{first_share}
use Rattle.zone_model.specs.Putting.{new_record, changed_record, written_over, body_after}
use Rattle.zone_model.specs.Working.{working_view, mark_of, with_puts, is_share_of}
use Rattle.zone_model.specs.Effect.{Request, working, body_without, is_put, is_left, after_leaving, after_puts}
use Rattle.name_rules.proofs.NameLemmas.{same-true}
use Rattle.zone_laws.proofs.RecordLaws.{none-some}
use Rattle.zone_laws.proofs.WorkingLaws.{put_at, put_over, record_written, found-working}
use Rattle.zone_laws.proofs.AfterLaws.{found-after-puts}

-- ---- cores

pub record Core : Type 0 where
  pub parent : Option (List ℕ)
  pub root : Option (List ℕ)
  pub fields : List (List ℕ × Value)

abbrev pub root_of : Body → Option (List ℕ)
root_of b = option_map (λ (s : ShareOf). s.root) (share_in b)

abbrev pub core : Record → Core
core r = record { parent = r.parent; root = root_of r.body; fields = r.fields }

share_root : (b : Body) → is_some (share_in b) ≡ is_some (root_of b)
share_root Plain = refl
share_root (Share s) = refl

pub share-core : (r : Record) → is_share r ≡ is_some (core r).root
share-core r = share_root r.body

of_root : (x : List ℕ) (b : Body) → is_some_and (λ (s : ShareOf). same x s.root) (share_in b) ≡ is_some_and (same x) (root_of b)
of_root x Plain = refl
of_root x (Share s) = refl

pub share_of-core : (x : List ℕ) (r : Record) → is_share_of x r ≡ is_some_and (same x) (core r).root
share_of-core x r = of_root x r.body

without_root : (u : List ℕ) (b : Body) → root_of (body_without u b) ≡ root_of b
without_root u Plain = refl
without_root u (Share s) = refl

leaving_root : (q : Request) (b : Bool) (r : Record) → core (if b then record r { body = body_without q.caller.user r.body } else r) ≡ core r
leaving_root q true r = ap (λ t. record { parent = r.parent; root = t; fields = r.fields }) (without_root q.caller.user r.body)
leaving_root q false r = refl

pub leaving-core : (q : Request) (r : Record) → core (after_leaving q r) ≡ core r
leaving-core q r = leaving_root q (is_left q r) r

after_root : (b : Body) (d : Draft) → root_of (body_after b d) ≡ root_of b
after_root Plain d = refl
after_root (Share s) d = refl

new_root : (h : Bool) (o : Option (List ℕ)) (d : Draft) (guid : List ℕ) → root_of (if h then option_map_or (λ root. Share (share_after (first_share root guid) d)) o Plain else Plain) ≡ (if h then o else None)
new_root true None d guid = refl
new_root true (Some x) d guid = refl
new_root false o d guid = refl

-- the root of a new record
abbrev pub root_begun : Draft → Option (List ℕ)
root_begun d = if has_share_type d then root_given d else None

pub new-root : (p : NamedOp) → (core (new_record p)).root ≡ root_begun p.draft
new-root p = new_root (has_share_type p.draft) (root_given p.draft) p.draft p.guid

-- ---- puts over what is seen

put_found : (s : Bool) (q p : NamedOp) (o : Option NamedOp) (x : List ℕ) → same x q.name ≡ s → (o ≡ Some p → same x p.name ≡ true) → cond s (Some q) o ≡ Some p → same x p.name ≡ true
put_found true q p o x is ih e = subst (λ (t : NamedOp). same x t.name ≡ true) (same_Some q p e) is
put_found false q p o x is ih e = ih e

pub none_put : (p : NamedOp) → None ≡ Some p → ⊥
none_put p e = both_ways false refl (ap (λ (o : Option NamedOp). option_map_or (λ _. true) o false) e)

pub put-name : (ps : List NamedOp) (x : List ℕ) (p : NamedOp) → put_at ps x ≡ Some p → same x p.name ≡ true
put-name [] x p e = absurd (none_put p e)
put-name (q ∷ ps) x p e = put_found (same x q.name) q p (put_at ps x) x refl (put-name ps x p) e

-- a record that is seen, after a put of its name or none
pub record Changed (seen : List Record) (i : Option NamedOp) (v : Record) : Type 0 where
  pub row : Record
  pub is : put_over seen i (Some v) ≡ Some row
  pub parent : row.parent ≡ v.parent
  pub root : (core row).root ≡ (core v).root
  pub share : row.share ≡ v.share
  pub created : row.created ≡ v.created
  pub unput : i ≡ None → row ≡ v

changed_by : (seen : List Record) (b : Bool) (p : NamedOp) (v : Record) → record_written seen p ≡ (if b then Some (changed_record p v) else None) → Changed seen (Some p) v
changed_by seen true p v is = record {
  row = changed_record p v;
  is = ap (λ o. option_map_or Some o (Some v)) is;
  parent = refl;
  root = after_root v.body p.draft;
  share = refl;
  created = refl;
  unput = λ e. absurd (none_put p (sym e));
}
changed_by seen false p v is = record { row = v; is = ap (λ o. option_map_or Some o (Some v)) is; parent = refl; root = refl; share = refl; created = refl; unput = λ e. refl }

pub changed_at : (seen : List Record) (ps : List NamedOp) (x : List ℕ) (i : Option NamedOp) (v : Record) → put_at ps x ≡ i → record_at seen x ≡ Some v → Changed seen i v
changed_at seen ps x None v at is = record { row = v; is = refl; parent = refl; root = refl; share = refl; created = refl; unput = λ e. refl }
changed_at seen ps x (Some p) v at is =
    let name : x ≡ p.name = same-true x p.name (put-name ps x p at) in
    changed_by seen (changes_old p.kind) p v (ap (written_over p) (ap (record_at seen) (sym name) ∙ is))

-- a record that is not seen, after a put of its name
pub record Begun (ps : List NamedOp) (x : List ℕ) (row : Record) : Type 0 where
  pub put : NamedOp
  pub at : put_at ps x ≡ Some put
  pub makes : makes_new put.kind ≡ true
  pub is : new_record put ≡ row

begun_by : (ps : List NamedOp) (x : List ℕ) (b : Bool) (p : NamedOp) (w : Record) → put_at ps x ≡ Some p → makes_new p.kind ≡ b → option_map_or Some (if b then Some (new_record p) else None) None ≡ Some w → Begun ps x w
begun_by ps x true p w at makes e = record { put = p; at = at; makes = makes; is = same_Some (new_record p) w e }
begun_by ps x false p w at makes e = absurd (none-some None w refl e)

pub begun_at : (seen : List Record) (ps : List NamedOp) (x : List ℕ) (i : Option NamedOp) (w : Record) → put_at ps x ≡ i → record_at seen x ≡ None → put_over seen i None ≡ Some w → Begun ps x w
begun_at seen ps x None w at is e = absurd (none-some None w refl e)
begun_at seen ps x (Some p) w at is e =
    let name : x ≡ p.name = same-true x p.name (put-name ps x p at) in
    begun_by ps x (makes_new p.kind) p w at refl (ap (λ o. option_map_or Some (written_over p o) None) (sym (ap (record_at seen) (sym name) ∙ is)) ∙ e)

-- ---- the working view

marked_core : (f : Record → Option (List ℕ)) (o : Option Record) → option_map core (option_map (λ (r : Record). record r { share = f r }) o) ≡ option_map core o
marked_core f None = refl
marked_core f (Some r) = refl

pub working-core : (scope : Scope) (seen : List Record) (ops : List NamedOp) (x : List ℕ)
    → option_map core (record_at (working_view scope seen ops) x) ≡ option_map core (put_over seen (put_at (puts_in ops) x) (record_at seen x))
working-core scope seen ops x = ap (option_map core) (found-working seen scope ops x)
    ∙ marked_core (mark_of scope seen ops (with_puts seen ops)) (put_over seen (put_at (puts_in ops) x) (record_at seen x))

-- ---- after the puts

leaving_cores : (q : Request) (o : Option Record) → option_map core (option_map (after_leaving q) o) ≡ option_map core o
leaving_cores q None = refl
leaving_cores q (Some r) = ap Some (leaving-core q r)

pub after-core : (q : Request) → IsAscending q.seen → (x : List ℕ)
    → option_map core (record_at (after_puts q) x) ≡ option_map core (if is_put q x then or_else (record_at (working q) x) (record_at q.rows x) else record_at q.rows x)
after-core q in_order x = ap (option_map core) (found-after-puts q in_order x) ∙ leaving_cores q (if is_put q x then or_else (record_at (working q) x) (record_at q.rows x) else record_at q.rows x)
