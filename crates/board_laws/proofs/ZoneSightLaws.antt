-- Operations one after another find the same sights where the zone is the same and the names that they offer have the same past.
use Rattle.std.proofs.Common.{◌≡◌, ℕ, ◌+◌, List, [], ◌∷◌, ◌++◌, Bool, true, false, cond, not, refl, sym, ap, ◌∙◌, subst, map, Some, None, Option, ⊎_elim}
use Rattle.std.specs.Prelude.{find, fold, filter_map, option_map, if◌then◌else◌}
use Rattle.std.specs.Option.{option_map_or}
use Rattle.std.specs.List.{list_any, list_all, cons_option, AllByRecursion}
use Rattle.std.proofs.lemmas.Bool.{both_ways, and_parts, or_cases, or_left, or_right, cond-true}
use Rattle.ck_base.specs.Order.{is_before}
use Rattle.ck_base.specs.declared.key.ZoneKey.{ZoneKey}
use Rattle.record_model.specs.declared.records.Record.{Record}
use Rattle.zone_model.specs.declared.operations.Past.{Past}
use Rattle.zone_model.specs.declared.commits.Write.{Write}
use Rattle.zone_model.specs.declared.commits.Commit.{Commit}
use Rattle.zone_model.specs.Names.{same, is_in, distinct}
use Rattle.name_rules.specs.Options.{or_else}
use Rattle.name_rules.proofs.NameLemmas.{same-true, same-refl, IsWithin}
use Rattle.zone_model.specs.Records.{record_at, is_there, names_in, IsAscending}
use Rattle.zone_model.specs.Zones.{Zone, zone_at, after_act, commits_at, puts_at}
use Rattle.zone_model.specs.Views.{view_of_zone}
use Rattle.zone_model.specs.Past.{past_of, name_history}
use Rattle.zone_model.specs.Requests.{Caller, NamedOp, is_deletion, puts_in, names_put}
use Rattle.zone_model.specs.Judging.{has_fault, judgement}
use Rattle.zone_model.specs.Effect.{Request, working, is_put, after_leaving, after_puts, removed, write_of, writes, commits_with, effect}
use Rattle.zone_model.specs.Modifying.{request_at, judgement_at, effect_at}
use Rattle.zone_laws.specs.LawfulTests.{are_lawful}
use Rattle.zone_laws.proofs.RecordLaws.{none-some, found-name, found-below, later_step}
use Rattle.zone_laws.proofs.LogLaws.{zone-append, puts-append}
use Rattle.zone_laws.proofs.LifeLaws.{lives_kept}
use Rattle.zone_laws.proofs.TestLaws.{in_turn_so}
use Rattle.zone_laws.proofs.AfterLaws.{found-after-puts}
use Rattle.zone_laws.proofs.KeptLaws.{IsFine, any_put, new-in-working}
use Rattle.zone_laws.proofs.ParentLaws.{after_in_order}
use Rattle.zone_laws.proofs.LawfulLaws.{is_fine, lawful-effect, there-after, lawful-append, one_root}
use Rattle.board_model.specs.Sights.{op_sight, sights_of}
use Rattle.board_laws.proofs.OutcomeLaws.{past_offered, all_mapped}

-- ---- lists

distinct_step : (b : Bool) (x : List ℕ) (some ys : List (List ℕ)) → is_in ys x ≡ true → AllByRecursion (λ y. is_in ys y ≡ true) some → AllByRecursion (λ y. is_in ys y ≡ true) (if b then some else x ∷ some)
distinct_step true x some ys one all = all
distinct_step false x some ys one all = (one, all)

pub distinct_within : (xs ys : List (List ℕ)) → IsWithin xs ys → AllByRecursion (λ y. is_in ys y ≡ true) (distinct xs)
distinct_within [] ys within = tt
distinct_within (x ∷ xs) ys within = distinct_step (is_in xs x) x (distinct xs) ys (within x (or_left (same x x) (is_in xs x) (same-refl x))) (distinct_within xs ys (λ y i. within y (or_right (same y x) (is_in xs y) i)))

pub all_on : {X : Type 0} (P Q : X → Type 0) (xs : List X) → ((x : X) → P x → Q x) → AllByRecursion P xs → AllByRecursion Q xs
all_on P Q [] on all = tt
all_on P Q (x ∷ xs) on all = (on x all.0, all_on P Q xs on all.1)

any_name : (ps : List NamedOp) (x : List ℕ) → list_any (λ (p : NamedOp). same x p.name) ps ≡ true → is_in (map (λ (p : NamedOp). p.name) ps) x ≡ true
any_name [] x e = e
any_name (p ∷ ps) x e = ⊎_elim (λ (h : same x p.name ≡ true). or_left (same x p.name) _ h) (λ (h : list_any (λ (q : NamedOp). same x q.name) ps ≡ true). or_right (same x p.name) _ (any_name ps x h))
    (or_cases (same x p.name) _ e)

every_record : (P : Record → Type 0) (rows : List Record) → IsAscending rows → ((x : List ℕ) (r : Record) → record_at rows x ≡ Some r → P r) → AllByRecursion P rows
every_record P [] ascend each = tt
every_record P (r ∷ rows) ascend each =
    let parts = and_parts (list_all (is_before r.name) (names_in rows)) _ ascend in (
      each r.name r (cond-true (same r.name r.name) (Some r) (record_at rows r.name) (same-refl r.name)),
      every_record P rows parts.1 (λ x q e. each x q (later_step (same x r.name) r q rows x refl (found-below r.name rows parts.0) e)),
    )

mapped_alike : (f g : Record → Option Write) (rows : List Record) → AllByRecursion (λ r. f r ≡ g r) rows → filter_map f rows ≡ filter_map g rows
mapped_alike f g [] all = refl
mapped_alike f g (r ∷ rows) all = λ i. cons_option (all.0 i) (mapped_alike f g rows all.1 i)

-- ---- the names that one of the operations offers

module _ (op : NamedOp) (rest : List NamedOp) (x : List ℕ) where
  head_in : (d : Bool) → is_in (map (λ (p : NamedOp). p.name) (cond (not d) (op ∷ []) [])) x ≡ true → is_in (map (λ (p : NamedOp). p.name) (cond (not d) (op ∷ rest) rest)) x ≡ true
  head_in true e = absurd (both_ways false refl e)
  head_in false e = ⊎_elim (λ (h : same x op.name ≡ true). or_left (same x op.name) _ h) (λ (h : false ≡ true). absurd (both_ways false refl h)) (or_cases (same x op.name) false e)

  tail_in : (d : Bool) → is_in (map (λ (p : NamedOp). p.name) rest) x ≡ true → is_in (map (λ (p : NamedOp). p.name) (cond (not d) (op ∷ rest) rest)) x ≡ true
  tail_in true e = e
  tail_in false e = or_right (same x op.name) _ e

module _ (op : NamedOp) (ops : List NamedOp) (x : List ℕ) where
  pub offered_here : is_in (names_put (op ∷ [])) x ≡ true → is_in (names_put (op ∷ ops)) x ≡ true
  offered_here e = head_in op (puts_in ops) x (is_deletion op.kind) e

  pub offered_later : is_in (names_put ops) x ≡ true → is_in (names_put (op ∷ ops)) x ≡ true
  offered_later e = tail_in op (puts_in ops) x (is_deletion op.kind) e

-- ---- two logs that are alike for operations

-- the zone is the same, and there, and the names that the operations offer were put as often
pub record AreAlike (key : ZoneKey) (ops : List NamedOp) (old new : List Commit) : Type 0 where
  pub zone : zone_at old key ≡ zone_at new key
  pub puts : (x : List ℕ) → is_in (names_put ops) x ≡ true → puts_at old key x ≡ puts_at new key x
  pub lawful_old : are_lawful [] old ≡ true
  pub lawful_new : are_lawful [] new ≡ true
  pub there : (zone_at old key).there ≡ true

-- the same past of the names that are offered is that they were put as often
pub puts_alike : (old new : List Commit) (key : ZoneKey) (ops : List NamedOp) → name_history old key ops ≡ name_history new key ops → (x : List ℕ) → is_in (names_put ops) x ≡ true → puts_at old key x ≡ puts_at new key x
puts_alike old new key ops same_past x i =
    ap (λ (o : Option Past). option_map_or (λ (p : Past). p.puts) o 0)
    (sym (past_offered old key ops x i) ∙ ap (find (λ (p : Past). same x p.name)) same_past ∙ past_offered new key ops x i)

past_alike : (old new : List Commit) (key : ZoneKey) (ops : List NamedOp) → zone_at old key ≡ zone_at new key → ((x : List ℕ) → is_in (names_put ops) x ≡ true → puts_at old key x ≡ puts_at new key x)
    → name_history old key ops ≡ name_history new key ops
past_alike old new key ops zone puts =
    all_mapped (past_of old key) (past_of new key) (distinct (names_put ops))
    (all_on (λ x. is_in (names_put ops) x ≡ true) (λ x. past_of old key x ≡ past_of new key x) (distinct (names_put ops))
    (λ x i. (λ j. record { name = x; puts = puts x i j; taken = is_there (zone j).rows x })) (distinct_within (names_put ops) (names_put ops) (λ x i. i)))

-- ---- what one request comes to

module _ (caller : Caller) (moment : ℕ) (old new : List Commit) (ops : List NamedOp) (alike : AreAlike caller.key ops old new) where
  abbrev its_request : Request
  its_request = request_at caller moment old ops

  -- the same with the other counts of puts
  abbrev counted_else : Request
  counted_else = record its_request { puts = puts_at new caller.key }

  module _ (fine : IsFine its_request (name_history old caller.key ops)) where
    absent_by : (b : Bool) (w : Option Record) (r : Record) → option_map (after_leaving its_request) (if b then or_else w None else None) ≡ Some r → (t : Record) × (w ≡ Some t)
    absent_by true None r e = absurd (none-some None r refl e)
    absent_by true (Some t) r e = (t, refl)
    absent_by false w r e = absurd (none-some None r refl e)

    unseen_by : (o : Option Record) (x : List ℕ) → record_at its_request.seen x ≡ o → record_at its_request.rows x ≡ None → o ≡ None
    unseen_by None x is none = refl
    unseen_by (Some r) x is none = absurd (none-some (record_at its_request.rows x) r none (fine.part.part x r is))

    counted_by : (o : Option Record) (x : List ℕ) (r : Record) → record_at its_request.rows x ≡ o → record_at (after_puts its_request) x ≡ Some r → puts_at old caller.key x ≡ puts_at new caller.key x
    counted_by (Some z) x r is at =
        sym (lives_kept.tag old caller.key x z (in_turn_so [] old alike.lawful_old) is) ∙ lives_kept.tag new caller.key x z (in_turn_so [] new alike.lawful_new) (subst (λ (s : Zone). record_at s.rows x ≡ Some z) alike.zone is)
    counted_by None x r is at =
        let found = absent_by (is_put its_request x) (record_at (working its_request) x) r
        (ap (λ o. option_map (after_leaving its_request) (if is_put its_request x then or_else (record_at (working its_request) x) o else o)) (sym is) ∙ sym (found-after-puts its_request fine.seen_in_order x) ∙ at) in
        let begun = new-in-working its_request (name_history old caller.key ops) fine x found.0 (unseen_by (record_at its_request.seen x) x refl is) found.1 in
        alike.puts x (any_name (puts_in ops) x (any_put (puts_in ops) x begun.put begun.at))

    write_alike : (x : List ℕ) (r : Record) → record_at (after_puts its_request) x ≡ Some r → write_of its_request (removed its_request) r ≡ write_of counted_else (removed its_request) r
    write_alike x r at =
        let name = same-true x r.name (found-name (after_puts its_request) x r at) in
        let counted : puts_at old caller.key r.name ≡ puts_at new caller.key r.name = subst (λ y. puts_at old caller.key y ≡ puts_at new caller.key y) name (counted_by (record_at its_request.rows x) x r refl at) in
        λ i. write_of (record its_request { puts = λ y. counted i }) (removed its_request) r

    writes_alike : writes its_request (removed its_request) ≡ writes counted_else (removed its_request)
    writes_alike =
        mapped_alike (write_of its_request (removed its_request)) (write_of counted_else (removed its_request)) (after_puts its_request)
        (every_record (λ r. write_of its_request (removed its_request) r ≡ write_of counted_else (removed its_request) r) (after_puts its_request)
        (after_in_order its_request (name_history old caller.key ops) fine) write_alike)

  abbrev effect_with : Zone → List Past → (List ℕ → ℕ) → List Commit
  effect_with z pasts puts =
      let v = view_of_zone z caller.user caller.scope caller.key in
      if has_fault (judgement v pasts ops caller) then []
      else effect (record { caller = caller; moment = moment; seen = v.rows; rows = z.rows; puts = puts; ops = ops })

  counts_by : (b : Bool) → (b ≡ false → IsFine its_request (name_history old caller.key ops)) → (if b then [] else effect its_request) ≡ (if b then [] else effect counted_else)
  counts_by true fine = refl
  counts_by false fine = ap (commits_with its_request) (writes_alike (fine refl))

  pub commits_alike : (judged : has_fault (judgement_at caller moment old ops) ≡ false → IsFine its_request (name_history old caller.key ops)) → effect_at caller moment old ops ≡ effect_at caller moment new ops
  commits_alike judged =
      counts_by (has_fault (judgement_at caller moment old ops)) judged
      ∙ (λ i. effect_with (alike.zone i) (past_alike old new caller.key ops alike.zone alike.puts i) (puts_at new caller.key))

-- ---- one operation after another

module _ (caller : Caller) (moment : ℕ) where
  pub seen_alike : (old new : List Commit) (ops : List NamedOp) → zone_at old caller.key ≡ zone_at new caller.key → name_history old caller.key ops ≡ name_history new caller.key ops → op_sight caller moment old ops ≡ op_sight caller moment new ops
  seen_alike old new ops zone pasts i = record { view = view_of_zone (zone i) caller.user caller.scope caller.key; pasts = pasts i }

  module _ (op : NamedOp) (ops : List NamedOp) (old new : List Commit) (alike : AreAlike caller.key (op ∷ ops) old new) where
    here : AreAlike caller.key (op ∷ []) old new
    here = record { zone = alike.zone; puts = λ x i. alike.puts x (offered_here op ops x i); lawful_old = alike.lawful_old; lawful_new = alike.lawful_new; there = alike.there }

    made_alike : effect_at caller moment old (op ∷ []) ≡ effect_at caller moment new (op ∷ [])
    made_alike = commits_alike caller moment old new (op ∷ []) here (λ judged. is_fine caller moment old (op ∷ []) alike.lawful_old alike.there (one_root op) judged)

    there_new : (zone_at new caller.key).there ≡ true
    there_new = subst (λ (z : Zone). z.there ≡ true) alike.zone alike.there

    joined : (made : List Commit) → zone_at (old ++ made) caller.key ≡ zone_at (new ++ made) caller.key
    joined made = zone-append old made caller.key ∙ ap (λ z. fold (λ y (c : Commit). after_act y c.act) z (commits_at made caller.key)) alike.zone ∙ sym (zone-append new made caller.key)

    counted : (made : List Commit) (x : List ℕ) → is_in (names_put ops) x ≡ true → puts_at (old ++ made) caller.key x ≡ puts_at (new ++ made) caller.key x
    counted made x i = puts-append old made caller.key x ∙ ap (λ n. n + puts_at made caller.key x) (alike.puts x (offered_later op ops x i)) ∙ sym (puts-append new made caller.key x)

    later : AreAlike caller.key ops (old ++ effect_at caller moment old (op ∷ [])) (new ++ effect_at caller moment new (op ∷ []))
    later =
        let made = effect_at caller moment old (op ∷ []) in
        record {
          zone = joined made ∙ ap (λ cs. zone_at (new ++ cs) caller.key) made_alike;
          puts = λ x i. counted made x i ∙ ap (λ cs. puts_at (new ++ cs) caller.key x) made_alike;
          lawful_old = lawful-append [] old made alike.lawful_old (lawful-effect caller moment old (op ∷ []) alike.lawful_old alike.there (one_root op));
          lawful_new = lawful-append [] new (effect_at caller moment new (op ∷ [])) alike.lawful_new (lawful-effect caller moment new (op ∷ []) alike.lawful_new there_new (one_root op));
          there = there-after caller moment old (op ∷ []) alike.lawful_old alike.there (one_root op);
        }

  pub each_alike : (ops : List NamedOp) (old new : List Commit) → AreAlike caller.key ops old new → sights_of caller moment old ops ≡ sights_of caller moment new ops
  each_alike [] old new alike = refl
  each_alike (op ∷ ops) old new alike =
      let one = here op ops old new alike in
      let first = seen_alike old new (op ∷ []) one.zone (past_alike old new caller.key (op ∷ []) one.zone one.puts) in
      λ i. first i ∷ each_alike ops (old ++ effect_at caller moment old (op ∷ [])) (new ++ effect_at caller moment new (op ∷ [])) (later op ops old new alike) i
