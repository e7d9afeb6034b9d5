-- What a request commits has the form of a commit.
use Rattle.std.proofs.Common.{◌≡◌, ℕ, suc, ◌<◌, ◌^◌, List, [], ◌∷◌, Bool, true, false, cond, ◌&&◌, refl, sym, ap, ◌∙◌, subst, arith, Some, None, Option, length, ◌+◌, ◌++◌, not, append_assoc}
use Rattle.std.specs.Prelude.{filter_map, fold, is_some, is_none, unwrap_or, if◌then◌else◌, IfSome, count_by, nat_lt}
use Rattle.std.specs.Option.{option_map_or}
use Rattle.std.specs.List.{list_all, cons_option, AllByRecursion, list_any}
use Rattle.std.proofs.lemmas.Bool.{both_ways, and_parts, cond-true, or_left, or_right}
use Rattle.std.proofs.lemmas.Option.{same_Some}
use Rattle.ck_base.specs.Names.{IsName}
use Rattle.ck_base.specs.Guids.{IsGuid}
use Rattle.ck_base.specs.Order.{is_before}
use Rattle.ck_base.specs.declared.key.ZoneKey.{ZoneKey}
use Rattle.record_model.specs.declared.draft.Draft.{Draft}
use Rattle.record_model.specs.declared.draft.ForRoot.{ForRoot}
use Rattle.record_model.specs.declared.draft.ParentWish.{ParentWish}
use Rattle.record_model.specs.declared.draft.ParentWish.TheVariants.{Absent, Null, To}
use Rattle.record_model.specs.declared.records.Body.TheVariants.{Plain, Share}
use Rattle.record_model.specs.declared.records.Record.{Record}
use Rattle.record_model.specs.DraftForms.{IsParentWish, IsForRoot, IsWanted}
use Rattle.record_model.specs.RecordSizes.{size_of_record}
use Rattle.record_model.specs.RecordForms.{IsStamp, AreFields, is_share_type, IsBodyOf, IsStored}
use Rattle.zone_model.specs.declared.operations.Past.{Past}
use Rattle.zone_model.specs.declared.commits.Write.{Write}
use Rattle.zone_model.specs.declared.commits.Write.TheVariants.{Put, Remove, PutRemove}
use Rattle.zone_model.specs.declared.commits.Act.{Act}
use Rattle.zone_model.specs.declared.commits.Act.TheVariants.{Writes, MakeZone, DropZone, SetSubscription, DropSubscription}
use Rattle.zone_model.specs.declared.commits.Commit.{Commit}
use Rattle.zone_model.specs.Limits.{most_record_size}
use Rattle.zone_model.specs.Names.{same, same_key, is_in, has_twice, is_default}
use Rattle.name_rules.specs.Options.{is_some_and}
use Rattle.zone_model.specs.Records.{record_at, names_in, is_there, IsAscending}
use Rattle.zone_model.specs.Zones.{Zone, first_zone, commits_at, after_write, after_act, zone_at, puts_at, written_name, puts_name, act_puts}
use Rattle.zone_model.specs.Views.{is_empty}
use Rattle.zone_model.specs.Requests.{Caller, NamedOp, roots_in, makes_new, changes_old, drops_fields, puts_in, parent_given, has_share_type, root_given, is_deletion}
use Rattle.zone_model.specs.Sharing.{share_after}
use Rattle.share_records.specs.ShareLists.{first_share}
use Rattle.zone_model.specs.Putting.{new_record, changed_record, written_over}
use Rattle.zone_model.specs.Past.{name_history}
use Rattle.zone_model.specs.PutChecks.{is_new}
use Rattle.zone_model.specs.Judging.{has_fault}
use Rattle.zone_model.specs.Effect.{Request, working, body_without, is_put, is_left, after_leaving, after_puts, removed, is_unmarked, is_written, stamp, final, write_of, writes, effect}
use Rattle.zone_model.specs.Modifying.{request_at, judgement_at, effect_at, modified_as_one, modified_apart}
use Rattle.zone_model.specs.Form.{IsKey, IsWrite, IsActInForm, IsInForm}
use Rattle.zone_laws.specs.LawfulTests.{are_lawful}
use Rattle.zone_laws.specs.Laws.{IsGivenPut, EffectsAreInForm, HaveRoom, HasFewWrites}
use Rattle.zone_laws.proofs.NameLaws.{key-refl}
use Rattle.name_rules.proofs.NameLemmas.{same-true, same-refl}
use Rattle.zone_laws.proofs.RecordLaws.{none-some, found-name, found-below, later_step, found-after, left_by}
use Rattle.zone_laws.proofs.EffectLaws.{effects_in_order, write_by}
use Rattle.zone_laws.proofs.WorkingLaws.{put_at, put_over, found-puts}
use Rattle.zone_laws.proofs.JudgeLaws.{there-found}
use Rattle.zone_laws.proofs.CoreLaws.{none_put, put-name}
use Rattle.zone_laws.proofs.KeptLaws.{ground, IsFine, checked, is-new, not_hidden, after_is}
use Rattle.zone_laws.proofs.ParentLaws.{after_in_order}
use Rattle.zone_laws.proofs.RootLaws.{unmarked}
use Rattle.zone_laws.proofs.LawfulLaws.{mark_there, is_fine, one_root, lawful-append, lawful-effect, there-after}
use Rattle.zone_laws.proofs.FormLaws.{every-filter, AreInOrder, IsTaken, fields-form, share-form, first-form, body-form, body-left, every-append}
use Rattle.std.proofs.lemmas.List.Folds.{list_any-append}
use Rattle.zone_laws.proofs.LogLaws.{puts-append}
use Rattle.zone_laws.proofs.TestLaws.{in_turn_back}

-- ---- zones after commits in their form

abbrev AreStored : List Record → Type 0
AreStored rows = (x : List ℕ) (r : Record) → record_at rows x ≡ Some r → IsStored r

left_stored : (w : Write) (r : Record) → IsWrite w → left_by w ≡ Some r → IsStored r
left_stored (Put s) r is e = subst IsStored (same_Some s r e) is
left_stored (Remove x) r is e = absurd (none-some None r refl e)
left_stored (PutRemove x) r is e = absurd (none-some None r refl e)

write_stored : (s : Bool) (w : Write) (o : Option Record) (r : Record) → IsWrite w → (o ≡ Some r → IsStored r) → cond s (left_by w) o ≡ Some r → IsStored r
write_stored true w o r is old e = left_stored w r is e
write_stored false w o r is old e = old e

writes_stored : (ws : List Write) (rows : List Record) → AllByRecursion IsWrite ws → AreStored rows → AreStored (fold after_write rows ws)
writes_stored [] rows all stored = stored
writes_stored (w ∷ ws) rows all stored = writes_stored ws (after_write rows w) all.1
    (λ x r e. write_stored (same x (written_name w)) w (record_at rows x) r all.0 (stored x r) (sym (found-after rows w x) ∙ e))

act_stored : (z : Zone) (a : Act) → IsActInForm a → AreStored z.rows → AreStored (after_act z a).rows
act_stored z (Writes ws) is stored = writes_stored ws z.rows is.each stored
act_stored z MakeZone is stored = stored
act_stored z DropZone is stored = λ x r e. absurd (none-some None r refl e)
act_stored z (SetSubscription s) is stored = stored
act_stored z (DropSubscription scope id) is stored = stored

commits_stored : (cs : List Commit) (z : Zone) → AllByRecursion IsInForm cs → AreStored z.rows → AreStored (fold (λ z (c : Commit). after_act z c.act) z cs).rows
commits_stored [] z all stored = stored
commits_stored (c ∷ cs) z all stored = commits_stored cs (after_act z c.act) all.1 (act_stored z c.act all.0.act stored)

pub zone-stored : (log : List Commit) (key : ZoneKey) → AllByRecursion IsInForm log → AreStored (zone_at log key).rows
zone-stored log key all = commits_stored (commits_at log key) (first_zone key) (every-filter IsInForm (λ (c : Commit). same_key key c.key) log all) (λ x r e. absurd (none-some None r refl e))

-- ---- parts of new records

-- a name that has to be given
pub some_form : (o : Option (List ℕ)) → is_none o ≡ false → IfSome o IsName → IsName (unwrap_or o [])
some_form None some is = absurd (both_ways true some refl)
some_form (Some t) some is = is

parent_form : (w : ParentWish) → IsParentWish w → IfSome (unwrap_or (parent_given w) None) IsName
parent_form Absent is = tt
parent_form Null is = tt
parent_form (To p) is = is

root_form : (o : Option ForRoot) → is_none o ≡ false → IfSome o IsForRoot → (x : List ℕ) × (option_map_or (λ (f : ForRoot). Some f.name) o None ≡ Some x) × IsName x × (is_some o ≡ true)
root_form None some is = absurd (both_ways true some refl)
root_form (Some f) some is = (f.name, refl, is.0, refl)

shared_form : (owner t : List ℕ) (b : Bool) (o : Option (List ℕ)) (d : Draft) (guid : List ℕ) → IsTaken owner d → is_share_type t ≡ b → (b ≡ true → (x : List ℕ) × (o ≡ Some x) × IsName x × IsGuid guid)
    → IfSome d.participants (AllByRecursion IsWanted)
    → IsBodyOf t (if b then option_map_or (λ root. Share (share_after (first_share root guid) d)) o Plain else Plain)
shared_form owner t true o d guid taken is given all =
    let x = given refl in
    subst (λ p. IsBodyOf t (option_map_or (λ root. Share (share_after (first_share root guid) d)) p Plain)) (sym x.1) (is, share-form owner (first_share x.0 guid) d taken (first-form x.0 guid x.2 x.3) all)
shared_form owner t false o d guid taken is given all = is

new_body_form : (owner : List ℕ) (r o : Option (List ℕ)) (d : Draft) (guid : List ℕ) → IsTaken owner d → is_none r ≡ false → (is_some_and is_share_type r ≡ true → (x : List ℕ) × (o ≡ Some x) × IsName x × IsGuid guid)
    → IfSome d.participants (AllByRecursion IsWanted)
    → IsBodyOf (unwrap_or r []) (if is_some_and is_share_type r then option_map_or (λ root. Share (share_after (first_share root guid) d)) o Plain else Plain)
new_body_form owner None o d guid taken some given all = absurd (both_ways true some refl)
new_body_form owner (Some t) o d guid taken some given all = shared_form owner t (is_share_type t) o d guid taken refl given all

put_found : (s : Bool) (q p : NamedOp) (o : Option NamedOp) → IsGivenPut q → (o ≡ Some p → IsGivenPut p) → cond s (Some q) o ≡ Some p → IsGivenPut p
put_found true q p o one more e = subst IsGivenPut (same_Some q p e) one
put_found false q p o one more e = more e

given_at : (ps : List NamedOp) (x : List ℕ) (p : NamedOp) → AllByRecursion IsGivenPut ps → put_at ps x ≡ Some p → IsGivenPut p
given_at [] x p all e = absurd (none_put p e)
given_at (q ∷ ps) x p all e = put_found (same x q.name) q p (put_at ps x) all.0 (given_at ps x p all.1) e

-- ---- lists of records

every_record : (P : Record → Type 0) (rows : List Record) → IsAscending rows → ((x : List ℕ) (r : Record) → record_at rows x ≡ Some r → P r) → AllByRecursion P rows
every_record P [] ascend each = tt
every_record P (r ∷ rows) ascend each =
    let parts = and_parts (list_all (is_before r.name) (names_in rows)) _ ascend in (
      each r.name r (cond-true (same r.name r.name) (Some r) (record_at rows r.name) (same-refl r.name)),
      every_record P rows parts.1 (λ x q e. each x q (later_step (same x r.name) r q rows x refl (found-below r.name rows parts.0) e)),
    )

every_step : (P : Write → Type 0) (o : Option Write) (ws : List Write) → IfSome o P → AllByRecursion P ws → AllByRecursion P (cons_option o ws)
every_step P None ws one all = all
every_step P (Some w) ws one all = (one, all)

every_mapped : (P : Write → Type 0) (f : Record → Option Write) (rows : List Record) → AllByRecursion (λ r. IfSome (f r) P) rows → AllByRecursion P (filter_map f rows)
every_mapped P f [] all = tt
every_mapped P f (r ∷ rows) all = every_step P (f r) (filter_map f rows) all.0 (every_mapped P f rows all.1)

any_more : (p : Write → Bool) (o : Option Write) (ws : List Write) → list_any p ws ≡ true → list_any p (cons_option o ws) ≡ true
any_more p None ws e = e
any_more p (Some w) ws e = or_right (p w) (list_any p ws) e

any_step : (s : Bool) (f : Record → Option Write) (p : Write → Bool) (q r : Record) (o : Option Record) (w : Write) (ws : List Write) → f r ≡ Some w → p w ≡ true → (o ≡ Some r → list_any p ws ≡ true)
    → cond s (Some q) o ≡ Some r → list_any p (cons_option (f q) ws) ≡ true
any_step true f p q r o w ws is pw ih e = ap (λ c. list_any p (cons_option c ws)) (ap f (same_Some q r e) ∙ is) ∙ or_left (p w) (list_any p ws) pw
any_step false f p q r o w ws is pw ih e = any_more p (f q) ws (ih e)

-- what becomes of a record is among what becomes of all
any_mapped : (f : Record → Option Write) (p : Write → Bool) (rows : List Record) (x : List ℕ) (r : Record) (w : Write) → record_at rows x ≡ Some r → f r ≡ Some w → p w ≡ true → list_any p (filter_map f rows) ≡ true
any_mapped f p [] x r w e is pw = absurd (none-some None r refl e)
any_mapped f p (q ∷ rows) x r w e is pw = any_step (same x q.name) f p q r (record_at rows x) w (filter_map f rows) is pw (λ h. any_mapped f p rows x r w h is pw) e

-- ---- records of the request

module _ (q : Request) (pasts : List Past) (fine : IsFine q pasts) (stored : AreStored q.rows) (given : AllByRecursion IsGivenPut (puts_in q.ops)) where
  -- all of a record's form but its tag, its share and its last stamp
  record IsBase (x : List ℕ) (r : Record) : Type 0 where
    pub name : IsName r.name
    pub rtype : IsName r.rtype
    pub parent : IfSome r.parent IsName
    pub fields : AreFields r.fields
    pub created : (z : Record) → record_at q.rows x ≡ Some z → IsStamp r.created
    pub body : IsBodyOf r.rtype r.body

  zone_base : (x : List ℕ) (z : Record) → record_at q.rows x ≡ Some z → IsBase x z
  zone_base x z there = let s = stored x z there in record { name = s.name; rtype = s.rtype; parent = s.parent; fields = s.fields; created = λ y e. s.created; body = s.body }

  kept_fields : (b : Bool) (x : List ℕ) (v : Record) → record_at q.rows x ≡ Some v → AreInOrder (if b then [] else v.fields)
  kept_fields true x v there = (tt, refl)
  kept_fields false x v there = let f = (stored x v there).fields in (f.0, f.1)

  -- a list that a put gives
  taken_at : (x : List ℕ) (p : NamedOp) → put_at (puts_in q.ops) x ≡ Some p → IsTaken q.caller.key.owner p.draft
  taken_at x p at = (checked q pasts fine x p at).listed

  -- what a put writes over what the caller sees
  small_by : (o : Option Record) (x : List ℕ) (p : NamedOp) → put_at (puts_in q.ops) x ≡ Some p → record_at q.seen x ≡ o
      → is_some_and (λ (r : Record). nat_lt most_record_size (size_of_record r)) (written_over p o) ≡ false
  small_by o x p at seen =
      let name : x ≡ p.name = same-true x p.name (put-name (puts_in q.ops) x p at) in
      ap (λ s. is_some_and (λ (r : Record). nat_lt most_record_size (size_of_record r)) (written_over p s)) (sym seen ∙ ap (record_at q.seen) name)
      ∙ (checked q pasts fine x p at).small

  small_old : (x : List ℕ) (p : NamedOp) (v : Record) → put_at (puts_in q.ops) x ≡ Some p → record_at q.seen x ≡ Some v → changes_old p.kind ≡ true
      → nat_lt most_record_size (size_of_record (changed_record p v)) ≡ false
  small_old x p v at seen changes =
      ap (λ b. is_some_and (λ (r : Record). nat_lt most_record_size (size_of_record r)) (if b then Some (changed_record p v) else None)) (sym changes) ∙ small_by (Some v) x p at seen

  small_new : (x : List ℕ) (p : NamedOp) → put_at (puts_in q.ops) x ≡ Some p → record_at q.seen x ≡ None → makes_new p.kind ≡ true → nat_lt most_record_size (size_of_record (new_record p)) ≡ false
  small_new x p at unseen makes =
      ap (λ b. is_some_and (λ (r : Record). nat_lt most_record_size (size_of_record r)) (if b then Some (new_record p) else None)) (sym makes) ∙ small_by None x p at unseen

  old_base : (b : Bool) (x : List ℕ) (p : NamedOp) (v r : Record) → put_at (puts_in q.ops) x ≡ Some p → record_at q.seen x ≡ Some v → changes_old p.kind ≡ b
      → option_map_or Some (if b then Some (changed_record p v) else None) (Some v) ≡ Some r → IsBase x r
  old_base true x p v r at seen changes e =
      let there = fine.part.part x v seen in
      let s = stored x v there in
      let g = given_at (puts_in q.ops) x p given at in
      subst (IsBase x) (same_Some (changed_record p v) r e) (record {
        name = s.name;
        rtype = s.rtype;
        parent = s.parent;
        fields = fields-form p.draft.fields (if drops_fields p.kind then [] else v.fields) g.meant.fields.0 (kept_fields (drops_fields p.kind) x v there)
            (small_old x p v at seen changes);
        created = λ z f. s.created;
        body = body-form q.caller.key.owner v.rtype v.body p.draft (taken_at x p at) s.body g.meant.participants;
      })
  old_base false x p v r at seen changes e = subst (IsBase x) (same_Some v r e) (zone_base x v (fine.part.part x v seen))

  typed_from : (a b : Bool) → a ≡ true → (a && b) ≡ false → b ≡ false
  typed_from true b is e = e
  typed_from false b is e = absurd (both_ways false refl is)

  new_base : (b : Bool) (x : List ℕ) (p : NamedOp) (r : Record) → put_at (puts_in q.ops) x ≡ Some p → record_at q.seen x ≡ None → makes_new p.kind ≡ b
      → option_map_or Some (if b then Some (new_record p) else None) None ≡ Some r → IsBase x r
  new_base true x p r at unseen makes e =
      let g = given_at (puts_in q.ops) x p given at in
      let passed = checked q pasts fine x p at in
      let newness = is-new q pasts fine x p at unseen in
      let typed = typed_from (is_new (ground q pasts) p) (is_none p.draft.rtype) newness passed.typed in
      let rooted : has_share_type p.draft ≡ true → (y : List ℕ) × (root_given p.draft ≡ Some y) × IsName y × IsGuid p.guid = λ h.
      let bare = typed_from (has_share_type p.draft) (is_none p.draft.for_root) h
      (typed_from (is_new (ground q pasts) p) (has_share_type p.draft && is_none p.draft.for_root) newness (typed_from (makes_new p.kind) (is_new (ground q pasts) p && (has_share_type p.draft && is_none p.draft.for_root)) makes (grouped (makes_new p.kind) (is_new (ground q pasts) p) (has_share_type p.draft) (is_none p.draft.for_root) passed.rooted))) in
      let f = root_form p.draft.for_root bare g.meant.root in
      (f.0, f.1, f.2, g.drawn f.3) in
      subst (IsBase x) (same_Some (new_record p) r e) (record {
        name = g.name;
        rtype = some_form p.draft.rtype typed g.meant.rtype;
        parent = parent_form p.draft.parent g.meant.parent;
        fields = fields-form p.draft.fields [] g.meant.fields.0 (tt, refl) (small_new x p at unseen makes);
        created = λ z there. absurd (not_hidden q pasts fine x p z at makes unseen there);
        body = new_body_form q.caller.key.owner p.draft.rtype (root_given p.draft) p.draft p.guid (taken_at x p at) typed rooted g.meant.participants;
      })
    where
      grouped : (a b c d : Bool) → ((a && (b && c)) && d) ≡ false → (a && (b && (c && d))) ≡ false
      grouped true true true d h = h
      grouped true true false d h = refl
      grouped true false c d h = refl
      grouped false b c d h = refl
  new_base false x p r at unseen makes e = absurd (none-some None r refl e)

  over_base : (i : Option NamedOp) (o : Option Record) (x : List ℕ) (r : Record) → put_at (puts_in q.ops) x ≡ i → record_at q.seen x ≡ o → put_over q.seen i o ≡ Some r → IsBase x r
  over_base None None x r at seen e = absurd (none-some None r refl e)
  over_base None (Some v) x r at seen e = subst (IsBase x) (same_Some v r e) (zone_base x v (fine.part.part x v seen))
  over_base (Some p) None x r at seen e =
      let name : x ≡ p.name = same-true x p.name (put-name (puts_in q.ops) x p at) in
      new_base (makes_new p.kind) x p r at seen refl (ap (λ o. option_map_or Some (written_over p o) None) (sym (ap (record_at q.seen) (sym name) ∙ seen)) ∙ e)
  over_base (Some p) (Some v) x r at seen e =
      let name : x ≡ p.name = same-true x p.name (put-name (puts_in q.ops) x p at) in
      old_base (changes_old p.kind) x p v r at seen refl (ap (λ o. option_map_or Some (written_over p o) (Some v)) (sym (ap (record_at q.seen) (sym name) ∙ seen)) ∙ e)

  mark_base : (x : List ℕ) (r : Record) (share : Option (List ℕ)) → IsBase x r → IsBase x (record r { share = share })
  mark_base x r share b = record { name = b.name; rtype = b.rtype; parent = b.parent; fields = b.fields; created = b.created; body = b.body }

  working_base : (x : List ℕ) (w : Record) → record_at (working q) x ≡ Some w → IsBase x w
  working_base x w is =
      let r = unmarked q pasts fine x w is in
      subst (IsBase x) r.2 (mark_base x r.0 _ (over_base (put_at (puts_in q.ops) x) (record_at q.seen x) x r.0 refl refl (sym (found-puts q.seen q.ops x) ∙ r.1)))

  left_base : (b : Bool) (x : List ℕ) (r : Record) → IsBase x r → IsBase x (if b then record r { body = body_without q.caller.user r.body } else r)
  left_base true x r b = record { name = b.name; rtype = b.rtype; parent = b.parent; fields = b.fields; created = b.created; body = body-left r.rtype r.body q.caller.user b.body }
  left_base false x r b = b

  after_by : (b : Bool) (w z : Option Record) (x : List ℕ) (a : Record) → is_put q x ≡ b → record_at (working q) x ≡ w → record_at q.rows x ≡ z → record_at (after_puts q) x ≡ Some a → IsBase x a
  after_by false w None x a put is there at = absurd (none-some None a refl (sym (after_is q pasts fine false w None x put is there) ∙ at))
  after_by false w (Some z) x a put is there at = subst (IsBase x) (same_Some (after_leaving q z) a (sym (after_is q pasts fine false w (Some z) x put is there) ∙ at)) (left_base (is_left q z) x z (zone_base x z there))
  after_by true None None x a put is there at = absurd (none-some None a refl (sym (after_is q pasts fine true None None x put is there) ∙ at))
  after_by true None (Some z) x a put is there at = subst (IsBase x) (same_Some (after_leaving q z) a (sym (after_is q pasts fine true None (Some z) x put is there) ∙ at)) (left_base (is_left q z) x z (zone_base x z there))
  after_by true (Some w) z x a put is there at = subst (IsBase x) (same_Some (after_leaving q w) a (sym (after_is q pasts fine true (Some w) z x put is there) ∙ at)) (left_base (is_left q w) x w (working_base x w is))

  after_base : (x : List ℕ) (a : Record) → record_at (after_puts q) x ≡ Some a → IsBase x a
  after_base x a at = after_by (is_put q x) (record_at (working q) x) (record_at q.rows x) x a refl refl refl at

  module _ (user : IsName q.caller.user) (moment : q.moment < 2 ^ 64) (counts : (x : List ℕ) → list_any (puts_name x) (writes q (removed q)) ≡ true → suc (q.puts x) < 2 ^ 64) where
    created_by : (o : Option Record) (x : List ℕ) (a : Record) → record_at q.rows x ≡ o → IsBase x a → IsStamp (if is_some o then a.created else stamp q)
    created_by None x a there b = record { moment = moment; user = user }
    created_by (Some z) x a there b = b.created z there

    share_by : (u : Bool) (o : Option (List ℕ)) (x : List ℕ) (a : Record) → record_at (after_puts q) x ≡ Some a → a.share ≡ o → IfSome (if u then None else o) IsName
    share_by true o x a at is = tt
    share_by false None x a at is = tt
    share_by false (Some y) x a at is =
        let t = mark_there q pasts fine x y a at is in
        subst IsName (sym (same-true y t.0.name (found-name (after_puts q) y t.0 t.1))) (after_base y t.0 t.1).name

    -- the name of a record that is written and stays is put
    name_put : (x : List ℕ) (a : Record) → record_at (after_puts q) x ≡ Some a → is_in (removed q) a.name ≡ false → is_written q (removed q) a ≡ true → list_any (puts_name a.name) (writes q (removed q)) ≡ true
    name_put x a at stays written = any_mapped (write_of q (removed q)) (puts_name a.name) (after_puts q) x a (Put (final q (removed q) a)) at
        (λ i. write_by q (removed q) (stays i) (written i) a) (same-refl a.name)

    final_stored : (x : List ℕ) (a : Record) → record_at (after_puts q) x ≡ Some a → is_in (removed q) a.name ≡ false → is_written q (removed q) a ≡ true → IsStored (final q (removed q) a)
    final_stored x a at stays written =
        let b = after_base x a at in
        let name : x ≡ a.name = same-true x a.name (found-name (after_puts q) x a at) in
        let created : IsStamp (if is_there q.rows a.name then a.created else stamp q) =
        subst (λ c. IsStamp (if c then a.created else stamp q)) (sym (there-found q.rows x) ∙ ap (is_there q.rows) name) (created_by (record_at q.rows x) x a refl b) in
        record {
          name = b.name;
          rtype = b.rtype;
          tag = (omega arith, counts a.name (name_put x a at stays written));
          parent = b.parent;
          share = share_by (is_unmarked q (removed q) a) a.share x a at refl;
          fields = b.fields;
          created = created;
          modified = record { moment = moment; user = user };
          body = b.body;
        }

    write_by_form : (goes written : Bool) (x : List ℕ) (a : Record) → record_at (after_puts q) x ≡ Some a → is_in (removed q) a.name ≡ goes → is_written q (removed q) a ≡ written
        → IfSome (write_by q (removed q) goes written a) IsWrite
    write_by_form true true x a at gone is = (after_base x a at).name
    write_by_form true false x a at gone is = (after_base x a at).name
    write_by_form false true x a at gone is = final_stored x a at gone is
    write_by_form false false x a at gone is = tt

    pub writes-form : AllByRecursion IsWrite (writes q (removed q))
    writes-form = every_mapped IsWrite (write_of q (removed q)) (after_puts q)
        (every_record (λ r. IfSome (write_of q (removed q) r) IsWrite) (after_puts q) (after_in_order q pasts fine)
        (λ x a at. write_by_form (is_in (removed q) a.name) (is_written q (removed q) a) x a at refl refl))

-- ---- the law

some_writes : (ws : List Write) → is_empty ws ≡ false → 0 < length ws
some_writes [] e = absurd (both_ways true e refl)
some_writes (w ∷ ws) e = omega arith

none_of : (p : Write → Bool) (ws : List Write) → is_empty ws ≡ true → list_any p ws ≡ true → ⊥
none_of p [] e any = both_ways false refl any
none_of p (w ∷ ws) e any = both_ways false refl e

-- a commit that puts a name counts once
put_counted : (log : List Commit) (c : Commit) (x : List ℕ) → act_puts x c.act ≡ true → puts_at (log ++ c ∷ []) c.key x ≡ suc (puts_at log c.key x)
put_counted log c x is =
    puts-append log (c ∷ []) c.key x
    ∙ ap (λ b. puts_at log c.key x + count_by (λ (d : Commit). act_puts x d.act) (cond b (c ∷ []) [])) (key-refl c.key)
    ∙ ap (λ b. puts_at log c.key x + (0 + cond b 1 0)) is
    ∙ omega arith

module _ (caller : Caller) (moment : ℕ) (log : List Commit) (ops : List NamedOp) where
  abbrev request : Request
  request = request_at caller moment log ops

  abbrev its_writes : List Write
  its_writes = writes request (removed request)

  abbrev its_commit : Commit
  its_commit = record { key = caller.key; user = caller.user; moment = moment; act = Writes its_writes }

  abbrev commits_by : Bool → List Commit
  commits_by e = if e then [] else its_commit ∷ []

  room_for : (e : Bool) → is_empty its_writes ≡ e → HaveRoom log caller.key (commits_by e) → (x : List ℕ) → list_any (puts_name x) its_writes ≡ true → suc (puts_at log caller.key x) < 2 ^ 64
  room_for true is room x put = absurd (none_of (puts_name x) its_writes is put)
  room_for false is room x put = subst (λ n. n < 2 ^ 64) (put_counted log its_commit x put) (room x (or_left (list_any (puts_name x) its_writes) false put))

  form_by : (e : Bool) → is_empty its_writes ≡ e → IsKey caller.key → IsName caller.user → moment < 2 ^ 64 → AllByRecursion IsWrite its_writes → AllByRecursion HasFewWrites (commits_by e)
      → AllByRecursion IsInForm (commits_by e)
  form_by true is key user in_range each few = tt
  form_by false is key user in_range each few = (
    record { key = key; user = user; moment = in_range; act = record { some = (some_writes its_writes is, few.0); each = each; ordered = effects_in_order.ordered caller moment log ops (removed (request_at caller moment log ops)) } },
    tt,
  )

  fault_by : (b : Bool) → has_fault (judgement_at caller moment log ops) ≡ b → are_lawful [] log ≡ true → AllByRecursion IsInForm log → (zone_at log caller.key).there ≡ true → has_twice (roots_in ops) ≡ false
      → AllByRecursion IsGivenPut (puts_in ops) → IsKey caller.key → IsName caller.user → moment < 2 ^ 64
      → HaveRoom log caller.key (if b then [] else effect request) → AllByRecursion HasFewWrites (if b then [] else effect request)
      → AllByRecursion IsInForm (if b then [] else effect request)
  fault_by true judged lawful formed there roots given key user in_range room few = tt
  fault_by false judged lawful formed there roots given key user in_range room few =
      let fine = is_fine caller moment log ops lawful there roots judged in
      form_by (is_empty its_writes) refl key user in_range
      (writes-form request (name_history log caller.key ops) fine (zone-stored log caller.key formed) given user in_range (room_for (is_empty its_writes) refl room)) few

  -- what a request that is judged as one commits has the form of a commit
  pub form-as_one : are_lawful [] log ≡ true → AllByRecursion IsInForm log → (zone_at log caller.key).there ≡ true → has_twice (roots_in ops) ≡ false
      → AllByRecursion IsGivenPut (puts_in ops) → IsKey caller.key → IsName caller.user → moment < 2 ^ 64
      → HaveRoom log caller.key (effect_at caller moment log ops) → AllByRecursion HasFewWrites (effect_at caller moment log ops)
      → AllByRecursion IsInForm (effect_at caller moment log ops)
  form-as_one lawful formed there roots given key user in_range room few =
      fault_by (has_fault (judgement_at caller moment log ops)) refl lawful formed there roots given key user in_range room few

-- ---- operations one after another

given_parts : (d : Bool) (op : NamedOp) (ops : List NamedOp) → AllByRecursion IsGivenPut (if not d then op ∷ puts_in ops else puts_in ops)
    → AllByRecursion IsGivenPut (if not d then op ∷ [] else []) × AllByRecursion IsGivenPut (puts_in ops)
given_parts true op ops all = (tt, all)
given_parts false op ops all = ((all.0, tt), all.1)

every_part : {X : Type 0} (P : X → Type 0) (xs ys : List X) → AllByRecursion P (xs ++ ys) → AllByRecursion P xs × AllByRecursion P ys
every_part P [] ys all = (tt, all)
every_part P (x ∷ xs) ys all = let rest = every_part P xs ys all.1 in ((all.0, rest.0), rest.1)

room_parts : (log made rest : List Commit) (key : ZoneKey) → HaveRoom log key (made ++ rest) → HaveRoom log key made × HaveRoom (log ++ made) key rest
room_parts log made rest key room = (
  λ x put.
      let all = room x (list_any-append (λ (c : Commit). act_puts x c.act) made rest ∙ or_left (list_any (λ (c : Commit). act_puts x c.act) made) (list_any (λ (c : Commit). act_puts x c.act) rest) put) in
      omega (arith, all, ap (λ l. puts_at l key x) (sym (append_assoc log made rest)) ∙ puts-append (log ++ made) rest key x),
  λ x put.
      let all = room x (list_any-append (λ (c : Commit). act_puts x c.act) made rest ∙ or_right (list_any (λ (c : Commit). act_puts x c.act) made) (list_any (λ (c : Commit). act_puts x c.act) rest) put) in
      subst (λ l. puts_at l key x < 2 ^ 64) (sym (append_assoc log made rest)) all,
)

module _ (caller : Caller) (moment : ℕ) (key : IsKey caller.key) (user : IsName caller.user) (in_range : moment < 2 ^ 64) where
  form_apart : (ops : List NamedOp) (log : List Commit) → are_lawful [] log ≡ true → AllByRecursion IsInForm log → (zone_at log caller.key).there ≡ true
      → AllByRecursion IsGivenPut (puts_in ops) → HaveRoom log caller.key (modified_apart caller moment log ops).commits
      → AllByRecursion HasFewWrites (modified_apart caller moment log ops).commits → AllByRecursion IsInForm (modified_apart caller moment log ops).commits
  form_apart [] log lawful formed there given room few = tt
  form_apart (op ∷ ops) log lawful formed there given room few =
      let made = effect_at caller moment log (op ∷ []) in
      let rest = (modified_apart caller moment (log ++ made) ops).commits in
      let puts = given_parts (is_deletion op.kind) op ops given in
      let rooms = room_parts log made rest caller.key room in
      let fews = every_part HasFewWrites made rest few in
      let first = form-as_one caller moment log (op ∷ []) lawful formed there (one_root op) puts.0 key user in_range rooms.0 fews.0 in
      every-append IsInForm made rest first
      (form_apart ops (log ++ made)
      (lawful-append [] log made lawful (lawful-effect caller moment log (op ∷ []) lawful there (one_root op)))
      (every-append IsInForm log made formed first)
      (there-after caller moment log (op ∷ []) lawful there (one_root op)) puts.1 rooms.1 fews.1)

  form_request : (b : Bool) (log : List Commit) (ops : List NamedOp) → are_lawful [] log ≡ true → AllByRecursion IsInForm log → (zone_at log caller.key).there ≡ true → has_twice (roots_in ops) ≡ false
      → AllByRecursion IsGivenPut (puts_in ops)
      → HaveRoom log caller.key (if b then modified_as_one caller moment log ops else modified_apart caller moment log ops).commits
      → AllByRecursion HasFewWrites (if b then modified_as_one caller moment log ops else modified_apart caller moment log ops).commits
      → AllByRecursion IsInForm (if b then modified_as_one caller moment log ops else modified_apart caller moment log ops).commits
  form_request true log ops lawful formed there roots given room few = form-as_one caller moment log ops lawful formed there roots given key user in_range room few
  form_request false log ops lawful formed there roots given room few = form_apart ops log lawful formed there given room few

-- what a request commits has the form of a commit
pub effects_form : EffectsAreInForm
effects_form = record {
  as_one = λ caller moment log ops lawful. form-as_one caller moment log ops (in_turn_back [] log lawful);
  requests = λ caller moment log atomic ops lawful formed there roots given key user in_range room few.
      form_request caller moment key user in_range (atomic && not (is_default caller.key)) log ops (in_turn_back [] log lawful) formed there roots given room few;
}
