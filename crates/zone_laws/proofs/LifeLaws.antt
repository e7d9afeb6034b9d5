-- Tags count puts, and parents are kept, in lawful logs.
use Rattle.std.proofs.Common.{◌≡◌, ℕ, suc, ◌+◌, List, [], ◌∷◌, ◌++◌, Bool, true, false, cond, ◌&&◌, ◌||◌, refl, sym, ap, ◌∙◌, subst, arith, Some, None, Option, inl, inr, ⊎_elim, append_assoc, append-nil}
use Rattle.std.specs.Prelude.{◌⊎◌, fold, count_by, is_some, if◌then◌else◌}
use Rattle.std.specs.List.{list_any, list_all}
use Rattle.std.proofs.lemmas.Bool.{both_ways, and_parts, or_left, or_right, eqb-true}
use Rattle.std.proofs.lemmas.Option.{same_Some}
use Rattle.name_rules.specs.Options.{is_none_or}
use Rattle.name_rules.proofs.NameLemmas.{same-true}
use Rattle.ck_base.specs.declared.key.ZoneKey.{ZoneKey}
use Rattle.record_model.specs.declared.records.Record.{Record}
use Rattle.zone_model.specs.declared.commits.Write.{Write}
use Rattle.zone_model.specs.declared.commits.Write.TheVariants.{Put, Remove, PutRemove}
use Rattle.zone_model.specs.declared.commits.Act.{Act}
use Rattle.zone_model.specs.declared.commits.Act.TheVariants.{Writes, MakeZone, DropZone, SetSubscription, DropSubscription}
use Rattle.zone_model.specs.declared.commits.Commit.{Commit}
use Rattle.zone_model.specs.Names.{same, same_option, same_key}
use Rattle.zone_model.specs.Records.{record_at, is_there}
use Rattle.zone_model.specs.Zones.{Zone, zone_at, after_write, after_act, puts_name, act_puts, puts_at, written_name}
use Rattle.zone_model.specs.Subscriptions.{subscriptions_at}
use Rattle.zone_laws.specs.LawfulTests.{is_lawful_write, has_next_tag, is_lawful_act, is_lawful, are_lawful}
use Rattle.zone_laws.specs.Lives.{LivesThrough, LivesAreKept}
use Rattle.zone_laws.proofs.LogLaws.{zone-snoc, puts-append}
use Rattle.zone_laws.proofs.EntryLaws.{Grown, empty, one_more, grown}
use Rattle.zone_laws.proofs.RecordLaws.{none-some, found-after, left_by}
use Rattle.zone_laws.proofs.FormedLaws.{lawful-parts, key-true, well-formed}
use Rattle.zone_laws.proofs.ThereLaws.{bare-zone, home-there}
use Rattle.zone_laws.proofs.JudgeLaws.{there-found}
use Rattle.zone_laws.proofs.SameLaws.{option-true}
use Rattle.zone_laws.proofs.TestLaws.{together_so, in_turn_back}

-- ---- what stands after writes

-- the writes put the record, with the next tag and the parent of the one before it
pub record WasPut (rows : List Record) (puts : List ℕ → ℕ) (ws : List Write) (x : List ℕ) (t : Record) : Type 0 where
  pub put : list_any (puts_name x) ws ≡ true
  pub tag : t.tag ≡ suc (puts x)
  pub place : is_none_or (λ (old : Record). same_option t.parent old.parent) (record_at rows x) ≡ true

-- the record was there, and the writes don't put it
pub record WasKept (rows : List Record) (ws : List Write) (x : List ℕ) (t : Record) : Type 0 where
  pub there : record_at rows x ≡ Some t
  pub unput : list_any (puts_name x) ws ≡ false

module _ (rows : List Record) (puts : List ℕ → ℕ) (x : List ℕ) (t : Record) where
  put_by : (s : Bool) (w : Write) (ws : List Write) (now : List Record) → same x (written_name w) ≡ s → is_lawful_write rows puts w ≡ true → list_any (puts_name x) ws ≡ false
      → cond s (left_by w) (record_at now x) ≡ Some t → WasPut rows puts (w ∷ ws) x t ⊎ WasKept now (w ∷ ws) x t
  put_by true (Put r) ws now is lawful none e =
      let parts = and_parts (has_next_tag puts (Put r)) _ lawful in
      let one : r ≡ t = same_Some r t e in
      let name : x ≡ r.name = same-true x r.name is in
      inl (record {
        put = or_left (same x r.name) _ is;
        tag = ap (λ (u : Record). u.tag) (sym one) ∙ eqb-true r.tag (suc (puts r.name)) parts.0 ∙ ap (λ y. suc (puts y)) (sym name);
        place = subst (λ (u : Record). is_none_or (λ (old : Record). same_option u.parent old.parent) (record_at rows x) ≡ true) one
            (subst (λ y. is_none_or (λ (old : Record). same_option r.parent old.parent) (record_at rows y) ≡ true) (sym name) parts.1);
      })
  put_by false (Put r) ws now is lawful none e = inr (record { there = e; unput = ap (λ b. b || list_any (puts_name x) ws) is ∙ none })
  put_by true (Remove y) ws now is lawful none e = absurd (none-some None t refl e)
  put_by false (Remove y) ws now is lawful none e = inr (record { there = e; unput = none })
  put_by true (PutRemove y) ws now is lawful none e = absurd (none-some None t refl e)
  put_by false (PutRemove y) ws now is lawful none e = inr (record { there = e; unput = ap (λ b. b || list_any (puts_name x) ws) is ∙ none })

  pub put-or-kept : (ws : List Write) (now : List Record) → list_all (is_lawful_write rows puts) ws ≡ true → record_at (fold after_write now ws) x ≡ Some t → WasPut rows puts ws x t ⊎ WasKept now ws x t
  put-or-kept [] now lawful e = inr (record { there = e; unput = refl })
  put-or-kept (w ∷ ws) now lawful e =
      let parts = and_parts (is_lawful_write rows puts w) _ lawful in
      ⊎_elim
      (λ (p : WasPut rows puts ws x t). inl (record { put = or_right (puts_name x w) _ p.put; tag = p.tag; place = p.place }))
      (λ (k : WasKept (after_write now w) ws x t). put_by (same x (written_name w)) w ws now refl parts.0 k.unput (sym (found-after now w x) ∙ k.there))
      (put-or-kept ws (after_write now w) parts.1 e)

-- ---- after an act

-- what a record that stands after a lawful act of its zone has
pub record Stands (before : List Record) (puts : ℕ) (was_put : Bool) (x : List ℕ) (t : Record) : Type 0 where
  pub put : was_put ≡ true → t.tag ≡ suc puts
  pub kept : was_put ≡ false → record_at before x ≡ Some t
  pub parent : (old : Record) → record_at before x ≡ Some old → t.parent ≡ old.parent

stands_kept : (before : List Record) (puts : ℕ) (x : List ℕ) (t : Record) → record_at before x ≡ Some t → Stands before puts false x t
stands_kept before puts x t e = record {
  put = λ p. absurd (both_ways false refl p);
  kept = λ _. e;
  parent = λ old o. ap (λ (r : Record). r.parent) (same_Some t old (sym e ∙ o));
}

stands_after : (a : Act) (log : List Commit) (key : ZoneKey) (x : List ℕ) (t : Record) → ((ws : List Write) → a ≡ Writes ws → list_all (is_lawful_write (zone_at log key).rows (puts_at log key)) ws ≡ true)
    → record_at (after_act (zone_at log key) a).rows x ≡ Some t → Stands (zone_at log key).rows (puts_at log key x) (act_puts x a) x t
stands_after (Writes ws) log key x t lawful e = ⊎_elim
    (λ (p : WasPut (zone_at log key).rows (puts_at log key) ws x t). record {
      put = λ _. p.tag;
      kept = λ none. absurd (both_ways (list_any (puts_name x) ws) none p.put);
      parent = λ old o. option-true t.parent old.parent (subst (λ f. is_none_or (λ (r : Record). same_option t.parent r.parent) f ≡ true) o p.place);
    })
    (λ (k : WasKept (zone_at log key).rows ws x t). subst (λ b. Stands (zone_at log key).rows (puts_at log key x) b x t) (sym k.unput) (stands_kept (zone_at log key).rows (puts_at log key x) x t k.there))
    (put-or-kept (zone_at log key).rows (puts_at log key) x t ws (zone_at log key).rows (lawful ws refl) e)
stands_after MakeZone log key x t lawful e = stands_kept (zone_at log key).rows (puts_at log key x) x t e
stands_after DropZone log key x t lawful e = absurd (none-some None t refl e)
stands_after (SetSubscription s) log key x t lawful e = stands_kept (zone_at log key).rows (puts_at log key x) x t e
stands_after (DropSubscription scope id) log key x t lawful e = stands_kept (zone_at log key).rows (puts_at log key x) x t e

lawful_writes : (log : List Commit) (c : Commit) → is_lawful log c ≡ true → (ws : List Write) → c.act ≡ Writes ws → list_all (is_lawful_write (zone_at log c.key).rows (puts_at log c.key)) ws ≡ true
lawful_writes log c lawful ws is =
    let written = subst (λ a. is_lawful_act (zone_at log c.key) (puts_at log c.key) (subscriptions_at log c.key) c.key a ≡ true) is lawful in
    (and_parts (list_all (is_lawful_write (zone_at log c.key).rows (puts_at log c.key)) ws) _ (and_parts (zone_at log c.key).there _ written).1).0

-- the commit is of the zone and puts the name
abbrev puts_here : ZoneKey → List ℕ → Commit → Bool
puts_here key x c = same_key key c.key && act_puts x c.act

stands_by : (b : Bool) (log : List Commit) (c : Commit) (key : ZoneKey) (x : List ℕ) (t : Record) → same_key key c.key ≡ b → is_lawful log c ≡ true
    → record_at (if b then after_act (zone_at log key) c.act else zone_at log key).rows x ≡ Some t → Stands (zone_at log key).rows (puts_at log key x) (b && act_puts x c.act) x t
stands_by true log c key x t is lawful e =
    let one : c.key ≡ key = sym (key-true key c.key is) in
    stands_after c.act log key x t (λ ws a. subst (λ k. list_all (is_lawful_write (zone_at log k).rows (puts_at log k)) ws ≡ true) one (lawful_writes log c lawful ws a)) e
stands_by false log c key x t is lawful e = stands_kept (zone_at log key).rows (puts_at log key x) x t e

pub stands : (log : List Commit) (c : Commit) (key : ZoneKey) (x : List ℕ) (t : Record) → is_lawful log c ≡ true → record_at (zone_at (log ++ c ∷ []) key).rows x ≡ Some t
    → Stands (zone_at log key).rows (puts_at log key x) (puts_here key x c) x t
stands log c key x t lawful e = stands_by (same_key key c.key) log c key x t refl lawful (ap (λ (z : Zone). record_at z.rows x) (sym (zone-snoc log c key)) ∙ e)

-- ---- tags

counted : (k p : Bool) (c : Commit) (x : List ℕ) → act_puts x c.act ≡ p → count_by (λ (d : Commit). act_puts x d.act) (cond k (c ∷ []) []) ≡ cond (k && p) 1 0
counted true true c x is = ap (λ b. 0 + cond b 1 0) is ∙ omega arith
counted true false c x is = ap (λ b. 0 + cond b 1 0) is ∙ omega arith
counted false p c x is = refl

tag_by : (b : Bool) (n m puts : ℕ) → (b ≡ true → n ≡ suc puts) → (b ≡ false → n ≡ puts) → m ≡ puts + cond b 1 0 → n ≡ m
tag_by true n m puts put kept e = put refl ∙ omega (arith, e)
tag_by false n m puts put kept e = kept refl ∙ omega (arith, e)

tag_grown : (log : List Commit) → Grown log → are_lawful [] log ≡ true → (key : ZoneKey) (x : List ℕ) (t : Record) → record_at (zone_at log key).rows x ≡ Some t → t.tag ≡ puts_at log key x
tag_grown _ empty lawful key x t e = absurd (none-some None t refl e)
tag_grown _ (one_more log c before) lawful key x t e =
    let parts = lawful-parts [] log c lawful in
    let s = stands log c key x t parts.1 e in
    tag_by (puts_here key x c) t.tag (puts_at (log ++ c ∷ []) key x) (puts_at log key x) s.put (λ none. tag_grown log before parts.0 key x t (s.kept none))
    (puts-append log (c ∷ []) key x ∙ ap (λ n. puts_at log key x + n) (counted (same_key key c.key) (act_puts x c.act) c x refl))

-- ---- parents

parent_kept : (log : List Commit) (c : Commit) (key : ZoneKey) (x : List ℕ) (old new : Record) → are_lawful [] (log ++ c ∷ []) ≡ true
    → record_at (zone_at log key).rows x ≡ Some old → record_at (zone_at (log ++ c ∷ []) key).rows x ≡ Some new → new.parent ≡ old.parent
parent_kept log c key x old new lawful was is = (stands log c key x new (lawful-parts [] log c lawful).1 is).parent old was

lawful_front : (before log more : List Commit) → are_lawful before (log ++ more) ≡ true → are_lawful before log ≡ true
lawful_front before [] more e = refl
lawful_front before (c ∷ log) more e =
    let parts = and_parts (is_lawful before c) _ e in
    ap (λ b. b && are_lawful (before ++ c ∷ []) log) parts.0 ∙ lawful_front (before ++ c ∷ []) log more parts.1

first_lives : (log : List Commit) (key : ZoneKey) (x : List ℕ) (more : List Commit) → LivesThrough log key x more → is_there (zone_at log key).rows x ≡ true
first_lives log key x more lives = subst (λ l. is_there (zone_at l key).rows x ≡ true) (append-nil log) (lives [] more refl)

rest_lives : (log : List Commit) (key : ZoneKey) (x : List ℕ) (c : Commit) (more : List Commit) → LivesThrough log key x (c ∷ more) → LivesThrough (log ++ c ∷ []) key x more
rest_lives log key x c more lives front rest e =
    subst (λ l. is_there (zone_at l key).rows x ≡ true) (sym (append_assoc log (c ∷ []) front)) (lives (c ∷ front) rest (ap (λ cs. c ∷ cs) e))

found_of : (o : Option Record) → is_some o ≡ true → (r : Record) × (o ≡ Some r)
found_of None e = absurd (both_ways false refl e)
found_of (Some r) e = (r, refl)

life_kept : (more log : List Commit) (key : ZoneKey) (x : List ℕ) (old new : Record) → are_lawful [] (log ++ more) ≡ true → LivesThrough log key x more
    → record_at (zone_at log key).rows x ≡ Some old → record_at (zone_at (log ++ more) key).rows x ≡ Some new → new.parent ≡ old.parent
life_kept [] log key x old new lawful lives was is =
    ap (λ (r : Record). r.parent) (same_Some new old (sym is ∙ ap (λ l. record_at (zone_at l key).rows x) (append-nil log) ∙ was))
life_kept (c ∷ more) log key x old new lawful lives was is =
    let joined : log ++ c ∷ more ≡ (log ++ c ∷ []) ++ more = sym (append_assoc log (c ∷ []) more) in
    let lawful_all = subst (λ l. are_lawful [] l ≡ true) joined lawful in
    let later = rest_lives log key x c more lives in
    let mid = found_of (record_at (zone_at (log ++ c ∷ []) key).rows x) (sym (there-found (zone_at (log ++ c ∷ []) key).rows x) ∙ first_lives (log ++ c ∷ []) key x more later) in
    life_kept more (log ++ c ∷ []) key x mid.0 new lawful_all later mid.1 (ap (λ l. record_at (zone_at l key).rows x) (sym joined) ∙ is)
    ∙ parent_kept log c key x old mid.0 (lawful_front [] (log ++ c ∷ []) more lawful_all) was mid.1

pub lives_kept : LivesAreKept
lives_kept = record {
  tag = λ log key x r lawful e. tag_grown log (grown log) (in_turn_back [] log lawful) key x r e;
  formed = λ log key lawful. together_so (zone_at log key).rows (well-formed log key (in_turn_back [] log lawful));
  gone = λ log key lawful. bare-zone log key (in_turn_back [] log lawful);
  home = λ log key lawful. home-there log key (in_turn_back [] log lawful);
  parent = λ log c key x old new lawful. parent_kept log c key x old new (in_turn_back [] (log ++ c ∷ []) lawful);
  life = λ more log key x old new lawful. life_kept more log key x old new (in_turn_back [] (log ++ more) lawful);
}
