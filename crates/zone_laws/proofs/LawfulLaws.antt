-- What a request without a fault commits is lawful.
use Rattle.std.proofs.Common.{◌≡◌, ℕ, List, [], ◌∷◌, Bool, true, false, cond, not, ◌&&◌, refl, sym, ap, ◌∙◌, subst, Some, None, Option, ◌++◌, append-nil, append_assoc, inl, inr, ⊎_elim}
use Rattle.std.specs.Prelude.{◌⊎◌, filter_map, fold, is_some, is_none, option_map, if◌then◌else◌}
use Rattle.std.specs.List.{list_all, cons_option}
use Rattle.std.proofs.lemmas.Bool.{both_ways, and_parts, and_from, false_from_ne_true}
use Rattle.std.proofs.lemmas.Option.{same_Some}
use Rattle.share_records.specs.declared.share.Share.{Share as ShareOf}
use Rattle.record_model.specs.declared.records.Record.{Record}
use Rattle.zone_model.specs.declared.operations.Past.{Past}
use Rattle.zone_model.specs.declared.commits.Write.{Write}
use Rattle.zone_model.specs.declared.commits.Act.TheVariants.{Writes}
use Rattle.zone_model.specs.declared.commits.Commit.{Commit}
use Rattle.zone_model.specs.Names.{same, same_option, is_in, has_twice, is_default}
use Rattle.name_rules.specs.Options.{is_some_and, is_none_or, or_else}
use Rattle.record_model.specs.RecordForms.{share_in}
use Rattle.zone_model.specs.Records.{record_at, is_there, is_share, share_of, IsAscending}
use Rattle.zone_model.specs.Zones.{Zone, zone_at, after_write, after_act}
use Rattle.zone_model.specs.Ancestry.{IsAncestor, is_ancestor}
use Rattle.name_rules.specs.Parents.{here, up}
use Rattle.zone_model.specs.Views.{is_empty}
use Rattle.zone_model.specs.Past.{name_history}
use Rattle.zone_model.specs.Requests.{roots_in, Caller, NamedOp, is_deletion, root_given}
use Rattle.zone_model.specs.Working.{is_share_of, loses_mark}
use Rattle.zone_model.specs.Judging.{faults_of, has_fault}
use Rattle.zone_model.specs.Grounds.{grounds_of}
use Rattle.zone_model.specs.Effect.{Request, working, is_put, after_leaving, after_puts, removed, is_unmarked, is_written, write_of, writes, effect}
use Rattle.zone_model.specs.Modifying.{request_at, judgement_at, effect_at, modified_as_one, modified_apart, commits_of_request}
use Rattle.zone_laws.specs.LawfulTests.{is_plain, is_marked_with, has_good_parent, has_good_root, has_good_mark, is_within_limits, fits_in, are_well_formed, has_next_tag, has_its_place, is_lawful_write, is_lawful, are_lawful}
use Rattle.zone_laws.specs.Laws.{EffectsAreLawful}
use Rattle.zone_laws.proofs.NameLaws.{key-refl}
use Rattle.name_rules.proofs.NameLemmas.{same-true, same-refl}
use Rattle.zone_laws.proofs.SameLaws.{option-refl}
use Rattle.zone_laws.proofs.AncestryLaws.{is_ancestor_gives}
use Rattle.zone_laws.proofs.LogLaws.{zone-snoc}
use Rattle.zone_laws.proofs.OrderLaws.{ascending-zone, stays_in_order, ascending-act}
use Rattle.zone_laws.proofs.RecordLaws.{none-some, found-name, all-found}
use Rattle.zone_laws.proofs.EffectLaws.{tags_next, write_by}
use Rattle.zone_laws.proofs.AfterLaws.{found-settled, found-nothing, unwritten, settle, settle-name, settle-parent, settle-body, settle-fields, settle-share}
use Rattle.zone_laws.proofs.FormedLaws.{well-formed, view-part}
use Rattle.zone_laws.proofs.JudgeLaws.{none-refused, past-taken, there-found}
use Rattle.zone_laws.proofs.CoreLaws.{core, share_of-core}
use Rattle.zone_laws.proofs.KeptLaws.{IsFine, old-after, after_is, reached, fits}
use Rattle.zone_laws.proofs.ParentLaws.{from_parent_at, to_parent_at, after_in_order, parent-there, no-ring}
use Rattle.zone_laws.proofs.HoldLaws.{parent-stays}
use Rattle.zone_laws.proofs.MarkLaws.{none_name, any-from, some-same}
use Rattle.zone_laws.proofs.RootLaws.{new_share_of, mark_is, put_rows, unmarked, new_mark, row_seen, row_new, leaving-share, root-stays, root-marked, root-there, share-parent}
use Rattle.zone_laws.proofs.SizeLaws.{within-same, within-after}
use Rattle.zone_laws.proofs.TestLaws.{in_turn_so, in_turn_back}

-- ---- tests of writes

all_both : (p t : Write → Bool) (ws : List Write) → list_all p ws ≡ true → list_all t ws ≡ true → list_all (λ w. p w && t w) ws ≡ true
all_both p t [] ps ts = refl
all_both p t (w ∷ ws) ps ts =
    let a = and_parts (p w) _ ps in
    let b = and_parts (t w) _ ts in
    and_from (p w && t w) _ (and_from (p w) _ a.0 b.0) (all_both p t ws a.1 b.1)

all_mapped_step : (t : Write → Bool) (o : Option Write) (ws : List Write) → is_none_or t o ≡ true → list_all t ws ≡ true → list_all t (cons_option o ws) ≡ true
all_mapped_step t None ws one all = all
all_mapped_step t (Some w) ws one all = and_from (t w) _ one all

all_mapped : (t : Write → Bool) (f : Record → Option Write) (rows : List Record) → list_all (λ r. is_none_or t (f r)) rows ≡ true → list_all t (filter_map f rows) ≡ true
all_mapped t f [] all = refl
all_mapped t f (r ∷ rows) all = let parts = and_parts (is_none_or t (f r)) _ all in all_mapped_step t (f r) (filter_map f rows) parts.0 (all_mapped t f rows parts.1)

module _ (q : Request) (pasts : List Past) (fine : IsFine q pasts) where
  abbrev gone : List (List ℕ)
  gone = removed q

  -- ---- marks that stay

  abbrev pub Sharer : List ℕ → List ℕ → Type 0
  Sharer x y = (t : Record) × (record_at (after_puts q) y ≡ Some t) × ((core t).root ≡ Some x)

  sharer_by : (o : Option Record) (x y : List ℕ) → record_at q.rows y ≡ o → is_some_and (is_share_of x) o ≡ true → Sharer x y
  sharer_by None x y there e = absurd (both_ways false refl e)
  sharer_by (Some t) x y there e = let old = old-after q pasts fine y t there in (old.row, old.at, old.root ∙ some-same x (core t).root (sym (share_of-core x t) ∙ e))

  -- the share that a record of the zone names
  zone_mark : (x y : List ℕ) (z : Record) → record_at q.rows x ≡ Some z → z.share ≡ Some y → Sharer x y
  zone_mark x y z there share =
      let good = (and_parts (has_good_mark q.rows z) _ (and_parts (has_good_root q.rows z) _ (and_parts (has_good_parent q.rows z) _ (fits q pasts fine x z there)).1).1).0 in
      let at = subst (λ o. is_none_or (λ s. is_some_and (is_share_of z.name) (record_at q.rows s)) o ≡ true) share good in
      sharer_by (record_at q.rows y) x y refl (subst (λ s. is_some_and (is_share_of s) (record_at q.rows y) ≡ true) (sym (same-true x z.name (found-name q.rows x z there))) at)

  either_mark : (o s : Option (List ℕ)) (l : Bool) (y : List ℕ) → or_else o (if l then None else s) ≡ Some y → (o ≡ Some y) ⊎ (s ≡ Some y)
  either_mark (Some t) s l y e = inl e
  either_mark None s true y e = absurd (none_name y e)
  either_mark None s false y e = inr e

  row_mark : (o : Option Record) (x y : List ℕ) (row : Record) → record_at q.seen x ≡ o → record_at (put_rows q pasts fine) x ≡ Some row → row.share ≡ Some y → Sharer x y
  row_mark None x y row seen at share = absurd (none_name y (sym (row_new q pasts fine x row at seen) ∙ share))
  row_mark (Some v) x y row seen at share = zone_mark x y v (fine.part.part x v seen) (sym (row_seen q pasts fine x row v at seen) ∙ share)

  working_mark : (x y : List ℕ) (w : Record) → record_at (working q) x ≡ Some w → w.share ≡ Some y → Sharer x y
  working_mark x y w is share =
      let r = unmarked q pasts fine x w is in
      let name : r.0.name ≡ x = sym (same-true x r.0.name (found-name (put_rows q pasts fine) x r.0 r.1)) in
      let e : or_else (new_share_of q.seen (put_rows q pasts fine) x) (if loses_mark q.caller.scope q.seen q.ops x then None else r.0.share) ≡ Some y =
      sym (ap (λ (u : Record). u.share) (sym r.2) ∙ mark_is q.caller.scope q.seen q.ops (put_rows q pasts fine) r.0 ∙ ap (λ n. or_else (new_share_of q.seen (put_rows q pasts fine) n) (if loses_mark q.caller.scope q.seen q.ops n then None else r.0.share)) name) ∙ share in
      ⊎_elim
      (λ (n : new_share_of q.seen (put_rows q pasts fine) x ≡ Some y). let m = new_mark q pasts fine x y n in let t = reached q pasts fine y m.0 m.1 in (t.row, t.at, t.root ∙ m.3))
      (λ (s : r.0.share ≡ Some y). row_mark (record_at q.seen x) x y r.0 refl r.1 s)
      (either_mark (new_share_of q.seen (put_rows q pasts fine) x) r.0.share (loses_mark q.caller.scope q.seen q.ops x) y e)

  mark_by : (b : Bool) (w z : Option Record) (x y : List ℕ) (a : Record) → is_put q x ≡ b → record_at (working q) x ≡ w → record_at q.rows x ≡ z → record_at (after_puts q) x ≡ Some a → a.share ≡ Some y → Sharer x y
  mark_by false w None x y a put is there at share = absurd (none-some None a refl (sym (after_is q pasts fine false w None x put is there) ∙ at))
  mark_by false w (Some z) x y a put is there at share = zone_mark x y z there
      (sym (leaving-share q z) ∙ ap (λ (r : Record). r.share) (same_Some (after_leaving q z) a (sym (after_is q pasts fine false w (Some z) x put is there) ∙ at)) ∙ share)
  mark_by true None None x y a put is there at share = absurd (none-some None a refl (sym (after_is q pasts fine true None None x put is there) ∙ at))
  mark_by true None (Some z) x y a put is there at share = zone_mark x y z there
      (sym (leaving-share q z) ∙ ap (λ (r : Record). r.share) (same_Some (after_leaving q z) a (sym (after_is q pasts fine true None (Some z) x put is there) ∙ at)) ∙ share)
  mark_by true (Some w) z x y a put is there at share = working_mark x y w is
      (sym (leaving-share q w) ∙ ap (λ (r : Record). r.share) (same_Some (after_leaving q w) a (sym (after_is q pasts fine true (Some w) z x put is there) ∙ at)) ∙ share)

  -- the share that a record names is there
  pub mark_there : (x y : List ℕ) (a : Record) → record_at (after_puts q) x ≡ Some a → a.share ≡ Some y → Sharer x y
  mark_there x y a at share = mark_by (is_put q x) (record_at (working q) x) (record_at q.rows x) x y a refl refl refl at share

  -- and it stays, where the record is not unmarked
  mark_stays : (x y : List ℕ) (a t : Record) → record_at (after_puts q) x ≡ Some a → record_at (after_puts q) y ≡ Some t → (core t).root ≡ Some x → is_in gone x ≡ false → is_unmarked q gone a ≡ false → is_in gone y ≡ false
  mark_stays x y a t at ty root stays kept = false_from_ne_true (is_in gone y) (λ e.
      let of_name : is_share_of a.name t ≡ true = share_of-core a.name t ∙ ap (is_some_and (same a.name)) root ∙ subst (λ n. same n x ≡ true) (same-true x a.name (found-name (after_puts q) x a at)) (same-refl x) in
      let goes : is_in gone t.name ≡ true = subst (λ n. is_in gone n ≡ true) (same-true y t.name (found-name (after_puts q) y t ty)) e in
      let here : not (is_in gone a.name) ≡ true = subst (λ n. not (is_in gone n) ≡ true) (same-true x a.name (found-name (after_puts q) x a at)) (ap not stays) in
      both_ways (is_unmarked q gone a) kept (and_from (not (is_in gone a.name)) _ here (any-from (λ (s : Record). is_share_of a.name s && is_in gone s.name) (after_puts q) y t ty (and_from (is_share_of a.name t) _ of_name goes))))

  -- ---- the records after the commit

  abbrev rows : List Record
  rows = fold after_write q.rows (writes q gone)

  final_at : (x : List ℕ) (a : Record) → record_at (after_puts q) x ≡ Some a → is_in gone x ≡ false → record_at rows x ≡ Some (settle q gone a)
  final_at x a at stays = found-settled q gone fine.seen_in_order x a (after_in_order q pasts fine) at ∙ ap (λ b. cond b None (Some (settle q gone a))) stays

  stays_by : (b : Bool) (x : List ℕ) (a f : Record) → is_in gone x ≡ b → cond b None (Some (settle q gone a)) ≡ Some f → (is_in gone x ≡ false) × (settle q gone a ≡ f)
  stays_by true x a f is e = absurd (none-some None f refl e)
  stays_by false x a f is e = (is, same_Some (settle q gone a) f e)

  abbrev From : List ℕ → Record → Type 0
  From x f = (a : Record) × (record_at (after_puts q) x ≡ Some a) × (is_in gone x ≡ false) × (settle q gone a ≡ f)

  from_by : (o : Option Record) (x : List ℕ) (f : Record) → record_at (after_puts q) x ≡ o → record_at rows x ≡ Some f → From x f
  from_by None x f at e = absurd (none-some (record_at rows x) f (found-nothing q gone fine.seen_in_order x (after_in_order q pasts fine) at) e)
  from_by (Some a) x f at e = let s = stays_by (is_in gone x) x a f refl (sym (found-settled q gone fine.seen_in_order x a (after_in_order q pasts fine) at) ∙ e) in (a, at, s.0, s.1)

  from : (x : List ℕ) (f : Record) → record_at rows x ≡ Some f → From x f
  from x f e = from_by (record_at (after_puts q) x) x f refl e

  -- what stands above a record after the commit stood above it after the puts
  to_after : (a y : List ℕ) → IsAncestor rows a y → IsAncestor (after_puts q) a y
  to_after a _ (here y e) = here y e
  to_after a _ (up y p e above) =
      let t = from_parent_at rows y p e in
      let s = from y t.0 t.1 in
      up y p (to_parent_at (after_puts q) y p s.0 s.1 (sym (settle-parent q gone s.0) ∙ ap (λ (r : Record). r.parent) s.3 ∙ t.2)) (to_after a p above)

  plain_at : (x : List ℕ) (b : Record) → record_at (after_puts q) x ≡ Some b → is_in gone x ≡ false → is_share b ≡ false → is_plain rows x ≡ true
  plain_at x b at stays plain = ap (is_some_and (λ (r : Record). not (is_share r))) (final_at x b at stays) ∙ ap (λ c. not (is_some (share_in c))) (settle-body q gone b) ∙ ap not plain

  module _ (x : List ℕ) (a : Record) (at : record_at (after_puts q) x ≡ Some a) (stays : is_in gone x ≡ false) where
    abbrev settled : Record
    settled = settle q gone a

    name_is : settled.name ≡ x
    name_is = settle-name q gone a ∙ sym (same-true x a.name (found-name (after_puts q) x a at))

    good_parent_by : (o : Option (List ℕ)) → a.parent ≡ o → is_none_or (λ p. is_plain rows p && not (is_ancestor rows settled.name p)) o ≡ true
    good_parent_by None is = refl
    good_parent_by (Some p) is =
        let b = parent-there q pasts fine x p a at is in
        let ring : is_ancestor rows settled.name p ≡ false = false_from_ne_true (is_ancestor rows settled.name p) (λ e.
        no-ring q pasts fine x p a at is (to_after x p (subst (λ y. IsAncestor rows y p) name_is (is_ancestor_gives rows settled.name p e)))) in
        and_from (is_plain rows p) _ (plain_at p b.0 b.1 (parent-stays q pasts fine x p a at is stays) b.2) (ap not ring)

    good_parent : has_good_parent rows settled ≡ true
    good_parent = subst (λ o. is_none_or (λ p. is_plain rows p && not (is_ancestor rows settled.name p)) o ≡ true) (sym (settle-parent q gone a)) (good_parent_by a.parent refl)

    good_root_by : (o : Option ShareOf) → share_of settled ≡ o
        → is_none_or (λ (s : ShareOf). is_none settled.parent && (is_plain rows s.root && is_some_and (is_marked_with settled.name) (record_at rows s.root))) o ≡ true
    good_root_by None is = refl
    good_root_by (Some s) is =
        let root : (core a).root ≡ Some s.root = ap (λ b. option_map (λ (t : ShareOf). t.root) (share_in b)) (sym (settle-body q gone a)) ∙ ap (option_map (λ (t : ShareOf). t.root)) is in
        let r = root-there q pasts fine x s.root a at root stays in
        let still = root-stays q pasts fine x s.root a at root stays in
        let kept : (settle q gone r.row).share ≡ Some x = settle-share q gone r.row ∙ ap (λ b. if b then None else r.row.share) (root-marked q pasts fine x s.root a at root stays r.row r.at) ∙ r.share in
        and_from (is_none settled.parent) _ (ap is_none (settle-parent q gone a) ∙ share-parent q pasts fine x s.root a at root stays)
        (and_from (is_plain rows s.root) _ (plain_at s.root r.row r.at still r.plain)
        (ap (is_some_and (is_marked_with settled.name)) (final_at s.root r.row r.at still) ∙ ap (is_some_and (same settled.name)) kept ∙ subst (λ y. same y x ≡ true) (sym name_is) (same-refl x)))

    good_root : has_good_root rows settled ≡ true
    good_root = good_root_by (share_of settled) refl

    good_mark_by : (b : Bool) (o : Option (List ℕ)) → is_unmarked q gone a ≡ b → a.share ≡ o → is_none_or (λ y. is_some_and (is_share_of settled.name) (record_at rows y)) (if b then None else o) ≡ true
    good_mark_by true o off share = refl
    good_mark_by false None off share = refl
    good_mark_by false (Some y) off share =
        let t = mark_there x y a at share in
        let still = mark_stays x y a t.0 at t.1 t.2 stays off in
        ap (is_some_and (is_share_of settled.name)) (final_at y t.0 t.1 still) ∙ share_of-core settled.name (settle q gone t.0)
        ∙ ap (λ b. is_some_and (same settled.name) (option_map (λ (s : ShareOf). s.root) (share_in b))) (settle-body q gone t.0)
        ∙ ap (is_some_and (same settled.name)) t.2 ∙ subst (λ n. same n x ≡ true) (sym name_is) (same-refl x)

    good_mark : has_good_mark rows settled ≡ true
    good_mark = subst (λ o. is_none_or (λ y. is_some_and (is_share_of settled.name) (record_at rows y)) o ≡ true) (sym (settle-share q gone a)) (good_mark_by (is_unmarked q gone a) a.share refl refl)

    good_limits : is_within_limits settled ≡ true
    good_limits = within-same settled a (settle-fields q gone a) (settle-body q gone a) ∙ within-after q pasts fine x a at

    good : fits_in rows settled ≡ true
    good = and_from (has_good_parent rows settled) _ good_parent (and_from (has_good_root rows settled) _ good_root (and_from (has_good_mark rows settled) _ good_mark good_limits))

  rows_in_order : IsAscending rows
  rows_in_order = ascending-act (record { there = true; rows = q.rows }) (Writes (writes q gone)) fine.rows_in_order

  -- the records after the commit fit together
  pub formed-after : are_well_formed rows ≡ true
  formed-after = all-found (fits_in rows) rows rows_in_order (λ x f e. let s = from x f e in subst (λ (r : Record). fits_in rows r ≡ true) s.3 (good x s.0 s.1 s.2))

  -- ---- each write has its place

  put_place : (o : Option Record) (x : List ℕ) (a : Record) → record_at q.rows x ≡ o → record_at (after_puts q) x ≡ Some a → is_none_or (λ (old : Record). same_option a.parent old.parent) o ≡ true
  put_place None x a there at = refl
  put_place (Some z) x a there at =
      let old = old-after q pasts fine x z there in
      let same_parent : a.parent ≡ z.parent = ap (λ (r : Record). r.parent) (sym (same_Some old.row a (sym old.at ∙ at))) ∙ old.parent in
      ap (λ p. same_option p z.parent) same_parent ∙ option-refl z.parent

  place_by : (goes written : Bool) (x : List ℕ) (a : Record) → record_at (after_puts q) x ≡ Some a → is_written q gone a ≡ written → is_none_or (has_its_place q.rows) (write_by q gone goes written a) ≡ true
  place_by true true x a at is = refl
  place_by true false x a at is = subst (λ y. is_there q.rows y ≡ true) (same-true x a.name (found-name (after_puts q) x a at)) (there-found q.rows x ∙ ap is_some (unwritten q gone fine.seen_in_order x a at is))
  place_by false true x a at is = subst (λ y. is_none_or (λ (old : Record). same_option a.parent old.parent) (record_at q.rows y) ≡ true) (same-true x a.name (found-name (after_puts q) x a at)) (put_place (record_at q.rows x) x a refl at)
  place_by false false x a at is = refl

  pub places-after : list_all (has_its_place q.rows) (writes q gone) ≡ true
  places-after = all_mapped (has_its_place q.rows) (write_of q gone) (after_puts q)
      (all-found (λ r. is_none_or (has_its_place q.rows) (write_of q gone r)) (after_puts q) (after_in_order q pasts fine) (λ x a at. place_by (is_in gone a.name) (is_written q gone a) x a at refl))

-- ---- the law

module _ (caller : Caller) (moment : ℕ) (log : List Commit) (ops : List NamedOp)
    (lawful : are_lawful [] log ≡ true) (there : (zone_at log caller.key).there ≡ true) (roots : has_twice (roots_in ops) ≡ false) where
  abbrev request : Request
  request = request_at caller moment log ops

  abbrev pasts_of : List Past
  pasts_of = name_history log caller.key ops

  pub is_fine : has_fault (judgement_at caller moment log ops) ≡ false → IsFine request pasts_of
  is_fine judged = record {
    seen_in_order = stays_in_order.view log caller.user caller.scope caller.key;
    rows_in_order = ascending-zone log caller.key;
    formed = well-formed log caller.key lawful;
    part = view-part log caller.user caller.scope caller.key;
    judged = none-refused (faults_of (grounds_of caller pasts_of request.seen ops) ops) judged;
    history = past-taken log caller.key ops;
    roots = roots;
  }

  abbrev commit : Commit
  commit = record { key = caller.key; user = caller.user; moment = moment; act = Writes (writes request (removed request)) }

  commit_by : (b : Bool) → is_lawful log commit ≡ true → are_lawful log (if b then [] else commit ∷ []) ≡ true
  commit_by true one = refl
  commit_by false one = and_from (is_lawful log commit) true one refl

  is_lawful_commit : IsFine request pasts_of → is_lawful log commit ≡ true
  is_lawful_commit fine = and_from (zone_at log caller.key).there _ there
      (and_from (list_all (is_lawful_write request.rows request.puts) (writes request (removed request))) _
      (all_both (has_next_tag request.puts) (has_its_place request.rows) (writes request (removed request)) (tags_next request (removed request) (after_puts request)) (places-after request pasts_of fine))
      (formed-after request pasts_of fine))

  effect_by : (b : Bool) → has_fault (judgement_at caller moment log ops) ≡ b → are_lawful log (if b then [] else effect request) ≡ true
  effect_by true judged = refl
  effect_by false judged = commit_by (is_empty (writes request (removed request))) (is_lawful_commit (is_fine judged))

  pub lawful-effect : are_lawful log (effect_at caller moment log ops) ≡ true
  lawful-effect = effect_by (has_fault (judgement_at caller moment log ops)) refl

  there_step : (b : Bool) → (zone_at (log ++ (if b then [] else commit ∷ [])) caller.key).there ≡ true
  there_step true = ap (λ l. (zone_at l caller.key).there) (append-nil log) ∙ there
  there_step false = ap (λ (z : Zone). z.there) (zone-snoc log commit caller.key ∙ ap (λ b. if b then after_act (zone_at log caller.key) commit.act else zone_at log caller.key) (key-refl caller.key)) ∙ there

  there_by : (b : Bool) → (zone_at (log ++ (if b then [] else effect request)) caller.key).there ≡ true
  there_by true = there_step true
  there_by false = there_step (is_empty (writes request (removed request)))

  -- the zone is still there
  pub there-after : (zone_at (log ++ effect_at caller moment log ops) caller.key).there ≡ true
  there-after = there_by (has_fault (judgement_at caller moment log ops))

-- ---- operations one after another

pub lawful-append : (log cs ds : List Commit) → are_lawful log cs ≡ true → are_lawful (log ++ cs) ds ≡ true → are_lawful log (cs ++ ds) ≡ true
lawful-append log [] ds one more = subst (λ l. are_lawful l ds ≡ true) (append-nil log) more
lawful-append log (c ∷ cs) ds one more =
    let parts = and_parts (is_lawful log c) _ one in
    and_from (is_lawful log c) _ parts.0 (lawful-append (log ++ c ∷ []) cs ds parts.1 (subst (λ l. are_lawful l ds ≡ true) (sym (append_assoc log (c ∷ []) cs)) more))

single_root : (o : Option (List ℕ)) → has_twice (cons_option o []) ≡ false
single_root None = refl
single_root (Some x) = refl

one_root_by : (d : Bool) (op : NamedOp) → has_twice (filter_map (λ (p : NamedOp). root_given p.draft) (if not d then op ∷ [] else [])) ≡ false
one_root_by true op = refl
one_root_by false op = single_root (root_given op.draft)

-- one operation gives no root twice
pub one_root : (op : NamedOp) → has_twice (roots_in (op ∷ [])) ≡ false
one_root op = one_root_by (is_deletion op.kind) op

apart_lawful : (caller : Caller) (moment : ℕ) (ops : List NamedOp) (log : List Commit) → are_lawful [] log ≡ true → (zone_at log caller.key).there ≡ true
    → are_lawful log (modified_apart caller moment log ops).commits ≡ true
apart_lawful caller moment [] log lawful there = refl
apart_lawful caller moment (op ∷ ops) log lawful there =
    let made = effect_at caller moment log (op ∷ []) in
    let one = lawful-effect caller moment log (op ∷ []) lawful there (one_root op) in
    lawful-append log made (modified_apart caller moment (log ++ made) ops).commits one
    (apart_lawful caller moment ops (log ++ made) (lawful-append [] log made lawful one) (there-after caller moment log (op ∷ []) lawful there (one_root op)))

pub request_by : (b : Bool) (caller : Caller) (moment : ℕ) (log : List Commit) (ops : List NamedOp) → are_lawful [] log ≡ true → (zone_at log caller.key).there ≡ true → has_twice (roots_in ops) ≡ false
    → are_lawful log (if b then modified_as_one caller moment log ops else modified_apart caller moment log ops).commits ≡ true
request_by true caller moment log ops lawful there roots = lawful-effect caller moment log ops lawful there roots
request_by false caller moment log ops lawful there roots = apart_lawful caller moment ops log lawful there

-- what a request commits may follow
pub effects_lawful : EffectsAreLawful
effects_lawful = record {
  as_one = λ caller moment log ops lawful there roots. in_turn_so log (effect_at caller moment log ops) (lawful-effect caller moment log ops (in_turn_back [] log lawful) there roots);
  requests = λ caller moment log atomic ops lawful there roots. in_turn_so log (commits_of_request caller moment log atomic ops)
      (request_by (atomic && not (is_default caller.key)) caller moment log ops (in_turn_back [] log lawful) there roots);
}
