-- Of a request without a fault: which records stand after its puts, old ones and new ones.
use Rattle.std.proofs.Common.{◌≡◌, ℕ, List, [], ◌∷◌, Bool, true, false, cond, not, ◌||◌, refl, sym, ap, ◌∙◌, subst, Some, None, Option}
use Rattle.std.specs.Prelude.{is_some, option_map, if◌then◌else◌}
use Rattle.std.specs.Option.{option_map_or}
use Rattle.std.specs.List.{list_any}
use Rattle.std.proofs.lemmas.Bool.{both_ways, and_from, or_left, or_right}
use Rattle.std.proofs.lemmas.Option.{same_Some}
use Rattle.record_model.specs.declared.records.Record.{Record}
use Rattle.zone_model.specs.declared.operations.Past.{Past}
use Rattle.zone_model.specs.Names.{same, has_twice}
use Rattle.name_rules.specs.Options.{or_else}
use Rattle.zone_model.specs.Records.{record_at, is_there, IsAscending}
use Rattle.zone_model.specs.Requests.{roots_in, NamedOp, makes_new, puts_in}
use Rattle.zone_model.specs.Past.{is_taken}
use Rattle.zone_model.specs.Putting.{new_record}
use Rattle.zone_model.specs.Grounds.{Grounds, grounds_of}
use Rattle.zone_model.specs.PutChecks.{is_new}
use Rattle.zone_model.specs.Judging.{faults_of, has_fault}
use Rattle.zone_laws.specs.LawfulTests.{fits_in, are_well_formed}
use Rattle.zone_model.specs.Working.{is_new_share_of}
use Rattle.zone_model.specs.Effect.{Request, working, is_put, after_leaving, after_puts}
use Rattle.name_rules.proofs.NameLemmas.{same-true}
use Rattle.zone_laws.proofs.RecordLaws.{none-some, found-all}
use Rattle.zone_laws.proofs.WorkingLaws.{put_at, put_over}
use Rattle.zone_laws.proofs.AfterLaws.{found-after-puts}
use Rattle.zone_laws.proofs.FormedLaws.{IsPart}
use Rattle.zone_laws.proofs.JudgeLaws.{Passed, put-passed, there-found}
use Rattle.zone_laws.proofs.CoreLaws.{Core, core, leaving-core, put-name, changed_at, begun_at, working-core}

-- what the judgement of the request rests on
abbrev pub ground : Request → List Past → Grounds
ground q pasts = grounds_of q.caller pasts q.seen q.ops

-- a request at a lawful zone, in which no check fails
pub record IsFine (q : Request) (pasts : List Past) : Type 0 where
  pub seen_in_order : IsAscending q.seen
  pub rows_in_order : IsAscending q.rows
  pub formed : are_well_formed q.rows ≡ true
  pub part : IsPart q.seen q.rows
  pub judged : has_fault (faults_of (ground q pasts) q.ops) ≡ false
  pub history : (x : List ℕ) (p : NamedOp) → put_at (puts_in q.ops) x ≡ Some p → is_taken pasts x ≡ is_there q.rows x
  pub roots : has_twice (roots_in q.ops) ≡ false

any_step : (s : Bool) (test : NamedOp → Bool) (q p : NamedOp) (ps : List NamedOp) (x : List ℕ) → test p ≡ true → (put_at ps x ≡ Some p → list_any test ps ≡ true)
    → cond s (Some q) (put_at ps x) ≡ Some p → (test q || list_any test ps) ≡ true
any_step true test q p ps x passes ih e = or_left (test q) _ (subst (λ t. test t ≡ true) (sym (same_Some q p e)) passes)
any_step false test q p ps x passes ih e = or_right (test q) _ (ih e)

-- a test that the put of a name passes is passed by some put
pub any-found : (test : NamedOp → Bool) (ps : List NamedOp) (x : List ℕ) (p : NamedOp) → put_at ps x ≡ Some p → test p ≡ true → list_any test ps ≡ true
any-found test [] x p e passes = absurd (both_ways false refl (ap (λ (o : Option NamedOp). option_map_or (λ _. true) o false) e))
any-found test (q ∷ ps) x p e passes = any_step (same x q.name) test q p ps x passes (λ f. any-found test ps x p f passes) e

pub any_put : (ps : List NamedOp) (x : List ℕ) (p : NamedOp) → put_at ps x ≡ Some p → list_any (λ (t : NamedOp). same x t.name) ps ≡ true
any_put ps x p e = any-found (λ (t : NamedOp). same x t.name) ps x p e (put-name ps x p e)

found_put_step : (s : Bool) (p : NamedOp) (ps : List NamedOp) (x : List ℕ) → (list_any (λ (t : NamedOp). same x t.name) ps ≡ true → (q : NamedOp) × (put_at ps x ≡ Some q))
    → (s || list_any (λ (t : NamedOp). same x t.name) ps) ≡ true → (q : NamedOp) × (cond s (Some p) (put_at ps x) ≡ Some q)
found_put_step true p ps x rest e = (p, refl)
found_put_step false p ps x rest e = rest e

-- a name that some put has
pub found_put : (ps : List NamedOp) (x : List ℕ) → list_any (λ (t : NamedOp). same x t.name) ps ≡ true → (p : NamedOp) × (put_at ps x ≡ Some p)
found_put [] x e = absurd (both_ways false refl e)
found_put (p ∷ ps) x e = found_put_step (same x p.name) p ps x (found_put ps x) e

module _ (q : Request) (pasts : List Past) (fine : IsFine q pasts) where
  -- the checks that a put has passed
  pub checked : (x : List ℕ) (p : NamedOp) → put_at (puts_in q.ops) x ≡ Some p → Passed (ground q pasts) p
  checked x p at = put-passed (ground q pasts) q.ops x p fine.judged (at)

  pub is-new : (x : List ℕ) (p : NamedOp) → put_at (puts_in q.ops) x ≡ Some p → record_at q.seen x ≡ None → is_new (ground q pasts) p ≡ true
  is-new x p at unseen = ap not (ap (is_there q.seen) (sym (same-true x p.name (put-name (puts_in q.ops) x p at))) ∙ there-found q.seen x ∙ ap is_some unseen)

  -- what begins a life is not there
  pub not_hidden : (x : List ℕ) (p : NamedOp) (z : Record) → put_at (puts_in q.ops) x ≡ Some p → makes_new p.kind ≡ true → record_at q.seen x ≡ None → record_at q.rows x ≡ Some z → ⊥
  not_hidden x p z at makes unseen there =
      let name : x ≡ p.name = same-true x p.name (put-name (puts_in q.ops) x p at) in
      let taken : is_taken pasts p.name ≡ true = subst (λ y. is_taken pasts y ≡ true) name (fine.history x p at ∙ there-found q.rows x ∙ ap is_some there) in
      both_ways _ (checked x p at).unhidden (and_from (makes_new p.kind) _ makes (and_from (is_new (ground q pasts) p) _ (is-new x p at unseen) taken))

  not_there_by : (o : Option Record) (x : List ℕ) (p : NamedOp) → record_at q.rows x ≡ o → put_at (puts_in q.ops) x ≡ Some p → makes_new p.kind ≡ true → record_at q.seen x ≡ None → o ≡ None
  not_there_by None x p is at makes unseen = refl
  not_there_by (Some z) x p is at makes unseen = absurd (not_hidden x p z at makes unseen is)

  -- ---- the working view

  -- a record of the view in the working view
  pub record Seen (v w : Record) : Type 0 where
    pub parent : w.parent ≡ v.parent
    pub root : (core w).root ≡ (core v).root

  pub seen-in-working : (x : List ℕ) (v w : Record) → record_at q.seen x ≡ Some v → record_at (working q) x ≡ Some w → Seen v w
  seen-in-working x v w seen is =
      let puts = puts_in q.ops in
      let c = changed_at q.seen puts x (put_at puts x) v refl seen in
      let same_core : core w ≡ core c.row = same_Some (core w) (core c.row)
      (sym (ap (option_map core) is) ∙ working-core q.caller.scope q.seen q.ops x ∙ ap (λ o. option_map core (put_over q.seen (put_at puts x) o)) seen ∙ ap (option_map core) c.is) in
      record { parent = ap (λ (t : Core). t.parent) same_core ∙ c.parent; root = ap (λ (t : Core). t.root) same_core ∙ c.root }

  -- a record that is only in the working view
  pub record New (x : List ℕ) (w : Record) : Type 0 where
    pub put : NamedOp
    pub at : put_at (puts_in q.ops) x ≡ Some put
    pub makes : makes_new put.kind ≡ true
    pub is : core w ≡ core (new_record put)
    pub unseen : record_at q.seen x ≡ None
    pub absent : record_at q.rows x ≡ None

  begun_core : (o : Option Record) (w : Record) → Some (core w) ≡ option_map core o → (r : Record) × (o ≡ Some r) × (core w ≡ core r)
  begun_core None w e = absurd (both_ways false refl (ap (λ (c : Option Core). option_map_or (λ _. true) c false) (sym e)))
  begun_core (Some r) w e = (r, refl, same_Some (core w) (core r) e)

  pub new-in-working : (x : List ℕ) (w : Record) → record_at q.seen x ≡ None → record_at (working q) x ≡ Some w → New x w
  new-in-working x w unseen is =
      let puts = puts_in q.ops in
      let r = begun_core (put_over q.seen (put_at puts x) None) w
      (sym (ap (option_map core) is) ∙ working-core q.caller.scope q.seen q.ops x ∙ ap (λ o. option_map core (put_over q.seen (put_at puts x) o)) unseen) in
      let b = begun_at q.seen puts x (put_at puts x) r.0 refl unseen r.1 in
      record { put = b.put; at = b.at; makes = b.makes; is = r.2 ∙ ap core (sym b.is); unseen = unseen; absent = not_there_by (record_at q.rows x) x b.put refl b.at b.makes unseen }

  -- ---- after the puts

  -- a record of the zone after the puts
  pub record Old (x : List ℕ) (z : Record) : Type 0 where
    pub row : Record
    pub at : record_at (after_puts q) x ≡ Some row
    pub parent : row.parent ≡ z.parent
    pub root : (core row).root ≡ (core z).root
    pub unput : is_put q x ≡ false → core row ≡ core z

  pub after_is : (b : Bool) (w z : Option Record) (x : List ℕ) → is_put q x ≡ b → record_at (working q) x ≡ w → record_at q.rows x ≡ z → record_at (after_puts q) x ≡ option_map (after_leaving q) (if b then or_else w z else z)
  after_is b w z x put is there = found-after-puts q fine.seen_in_order x ∙ ap (λ c. option_map (after_leaving q) (if c then or_else (record_at (working q) x) (record_at q.rows x) else record_at q.rows x)) put
      ∙ ap (λ o. option_map (after_leaving q) (if b then or_else o (record_at q.rows x) else record_at q.rows x)) is ∙ ap (λ o. option_map (after_leaving q) (if b then or_else w o else o)) there

  stays_as : (x : List ℕ) (z : Record) → record_at (after_puts q) x ≡ Some (after_leaving q z) → Old x z
  stays_as x z at = record {
    row = after_leaving q z;
    at = at;
    parent = ap (λ (t : Core). t.parent) (leaving-core q z);
    root = ap (λ (t : Core). t.root) (leaving-core q z);
    unput = λ e. leaving-core q z;
  }

  put_over_old : (o : Option Record) (x : List ℕ) (z w : Record) → record_at q.seen x ≡ o → is_put q x ≡ true → record_at (working q) x ≡ Some w → record_at q.rows x ≡ Some z → Old x z
  put_over_old None x z w unseen put is there = absurd (none-some (record_at q.rows x) z (new-in-working x w unseen is).absent there)
  put_over_old (Some v) x z w seen put is there =
      let one : v ≡ z = same_Some v z (sym (fine.part.part x v seen) ∙ there) in
      let c = seen-in-working x v w seen is in
      record {
        row = after_leaving q w;
        at = after_is true (Some w) (Some z) x put is there;
        parent = ap (λ (t : Core). t.parent) (leaving-core q w) ∙ c.parent ∙ ap (λ (r : Record). r.parent) one;
        root = ap (λ (t : Core). t.root) (leaving-core q w) ∙ c.root ∙ ap (λ (r : Record). (core r).root) one;
        unput = λ e. absurd (both_ways (is_put q x) e put);
      }

  old_by : (b : Bool) (w : Option Record) (x : List ℕ) (z : Record) → is_put q x ≡ b → record_at (working q) x ≡ w → record_at q.rows x ≡ Some z → Old x z
  old_by false w x z put is there = stays_as x z (after_is false w (Some z) x put is there)
  old_by true None x z put is there = stays_as x z (after_is true None (Some z) x put is there)
  old_by true (Some w) x z put is there = put_over_old (record_at q.seen x) x z w refl put is there

  pub old-after : (x : List ℕ) (z : Record) → record_at q.rows x ≡ Some z → Old x z
  old-after x z there = old_by (is_put q x) (record_at (working q) x) x z refl refl there

  -- a record after the puts that is not the zone's
  pub record Added (x : List ℕ) (a : Record) : Type 0 where
    pub row : Record
    pub at : record_at (working q) x ≡ Some row
    pub is : after_leaving q row ≡ a
    pub new : New x row
    pub put : is_put q x ≡ true

  unseen_by : (o : Option Record) (x : List ℕ) → record_at q.seen x ≡ o → record_at q.rows x ≡ None → o ≡ None
  unseen_by None x is absent = refl
  unseen_by (Some v) x is absent = absurd (none-some (record_at q.rows x) v absent (fine.part.part x v is))

  added_by : (b : Bool) (w : Option Record) (x : List ℕ) (a : Record) → is_put q x ≡ b → record_at (working q) x ≡ w → record_at q.rows x ≡ None → record_at (after_puts q) x ≡ Some a → Added x a
  added_by false w x a put is absent at = absurd (none-some None a refl (sym (after_is false w None x put is absent) ∙ at))
  added_by true None x a put is absent at = absurd (none-some None a refl (sym (after_is true None None x put is absent) ∙ at))
  added_by true (Some w) x a put is absent at = record {
    row = w;
    at = is;
    is = same_Some (after_leaving q w) a (sym (after_is true (Some w) None x put is absent) ∙ at);
    new = new-in-working x w (unseen_by (record_at q.seen x) x refl absent ∙ refl) is;
    put = put;
  }

  pub added-after : (x : List ℕ) (a : Record) → record_at q.rows x ≡ None → record_at (after_puts q) x ≡ Some a → Added x a
  added-after x a absent at = added_by (is_put q x) (record_at (working q) x) x a refl refl absent at

  -- what is in the working view is there after the puts
  pub record Reached (x : List ℕ) (w : Record) : Type 0 where
    pub row : Record
    pub at : record_at (after_puts q) x ≡ Some row
    pub parent : row.parent ≡ w.parent
    pub root : (core row).root ≡ (core w).root

  reached_by : (o : Option Record) (x : List ℕ) (w : Record) → record_at q.seen x ≡ o → record_at (working q) x ≡ Some w → Reached x w
  reached_by (Some v) x w seen is =
      let c = seen-in-working x v w seen is in
      let old = old-after x v (fine.part.part x v seen) in
      record { row = old.row; at = old.at; parent = old.parent ∙ sym c.parent; root = old.root ∙ sym c.root }
  reached_by None x w unseen is =
      let new = new-in-working x w unseen is in
      let put : is_put q x ≡ true = or_left (list_any (λ (t : NamedOp). same x t.name) (puts_in q.ops)) (list_any (is_new_share_of q.seen x) (working q)) (any_put (puts_in q.ops) x new.put new.at) in
      record {
        row = after_leaving q w;
        at = after_is true (Some w) None x put is new.absent;
        parent = ap (λ (t : Core). t.parent) (leaving-core q w);
        root = ap (λ (t : Core). t.root) (leaving-core q w);
      }

  pub reached : (x : List ℕ) (w : Record) → record_at (working q) x ≡ Some w → Reached x w
  reached x w is = reached_by (record_at q.seen x) x w refl is

  -- ---- the two working views are the same

  pub judged-working : (x : List ℕ) (w : Record) → record_at (ground q pasts).working x ≡ Some w → (r : Record) × (record_at (working q) x ≡ Some r) × (core r ≡ core w)
  judged-working x w is = (w, is, refl)

  pub working-judged : (x : List ℕ) (w : Record) → record_at (working q) x ≡ Some w → (r : Record) × (record_at (ground q pasts).working x ≡ Some r) × (core r ≡ core w)
  working-judged x w is = (w, is, refl)

  -- ---- the zone before

  pub fits : (x : List ℕ) (z : Record) → record_at q.rows x ≡ Some z → fits_in q.rows z ≡ true
  fits x z there = found-all (fits_in q.rows) q.rows x z fine.formed there
