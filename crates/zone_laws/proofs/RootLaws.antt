-- Of a request without a fault: the share that stays has its root, and the root its mark.
use Rattle.std.proofs.Common.{◌≡◌, ℕ, List, Bool, true, false, not, ◌&&◌, ◌||◌, refl, sym, ap, ◌∙◌, subst, Some, None, Option}
use Rattle.std.specs.Prelude.{find, is_some, is_none, option_map, if◌then◌else◌}
use Rattle.std.specs.Option.{option_map_or}
use Rattle.std.specs.List.{list_any}
use Rattle.std.proofs.lemmas.Bool.{both_ways, and_parts, and_from, or_left, or_right, false_from_ne_true}
use Rattle.std.proofs.lemmas.Option.{same_Some}
use Rattle.ck_base.specs.declared.scope.Scope.{Scope}
use Rattle.record_model.specs.declared.records.Record.{Record}
use Rattle.zone_model.specs.declared.operations.Past.{Past}
use Rattle.zone_model.specs.Names.{same, is_in, is_private}
use Rattle.name_rules.specs.Options.{is_some_and, or_else}
use Rattle.zone_model.specs.Records.{record_at, is_there, is_share, IsAscending}
use Rattle.zone_model.specs.References.{goes_with}
use Rattle.zone_model.specs.Ancestry.{is_ancestor}
use Rattle.zone_model.specs.Requests.{NamedOp, puts_in, names_deleted}
use Rattle.zone_model.specs.Putting.{records_written}
use Rattle.zone_model.specs.Working.{is_new_share_of, is_share_of, mark_of, with_puts, loses_mark}
use Rattle.zone_model.specs.Grounds.{is_taken_by_deletion}
use Rattle.zone_model.specs.Effect.{Request, working, body_without, is_put, is_left, after_leaving, after_puts, removed, is_unmarked}
use Rattle.name_rules.proofs.NameLemmas.{same-true, same-refl, kept}
use Rattle.zone_laws.proofs.RecordLaws.{none-some, found-name, found-map}
use Rattle.zone_laws.proofs.EffectLaws.{ascending-fold}
use Rattle.zone_laws.proofs.WorkingLaws.{put_at, put_over, found-puts}
use Rattle.zone_laws.proofs.JudgeLaws.{there-found}
use Rattle.zone_laws.proofs.CoreLaws.{Core, core, share_of-core, leaving-core, changed_at, begun_at}
use Rattle.zone_laws.proofs.KeptLaws.{ground, IsFine, new-in-working, old-after, added-after, after_is, reached, judged-working}
use Rattle.zone_laws.proofs.ParentLaws.{plain-found, plain-zone, plain-working, after_in_order, taken, along-gone, taken-gone}
use Rattle.zone_laws.proofs.MarkLaws.{none_name, any-found, any-from, first-found, first-some, some-same, zone-share, new-share, share-once}

leaving_share : (q : Request) (b : Bool) (r : Record) → (if b then record r { body = body_without q.caller.user r.body } else r).share ≡ r.share
leaving_share q true r = refl
leaving_share q false r = refl

pub leaving-share : (q : Request) (r : Record) → (after_leaving q r).share ≡ r.share
leaving-share q r = leaving_share q (is_left q r) r

unthere : (o : Option Record) → is_some o ≡ false → o ≡ None
unthere None e = refl
unthere (Some r) e = absurd (both_ways true e refl)

-- the name of the new share of a root
abbrev pub new_share_of : List Record → List Record → List ℕ → Option (List ℕ)
new_share_of seen rows root = option_map_or (λ (s : Record). Some s.name) (find (is_new_share_of seen root) rows) None

-- a mark is the new share's name, or else another
pub mark_is : (scope : Scope) (seen : List Record) (ops : List NamedOp) (rows : List Record) (r : Record)
    → mark_of scope seen ops rows r ≡ or_else (new_share_of seen rows r.name) (if loses_mark scope seen ops r.name then None else r.share)
mark_is scope seen ops rows r = by_new (find (is_new_share_of seen r.name) rows) (if loses_mark scope seen ops r.name then None else r.share)
  where
    by_new : (o : Option Record) (other : Option (List ℕ)) → option_map_or (λ (s : Record). Some s.name) o other ≡ or_else (option_map_or (λ (s : Record). Some s.name) o None) other
    by_new None other = refl
    by_new (Some s) other = refl

module _ (q : Request) (pasts : List Past) (fine : IsFine q pasts) where
  abbrev pub put_rows : List Record
  put_rows = with_puts q.seen q.ops

  abbrev pub mark : Record → Option (List ℕ)
  mark r = mark_of q.caller.scope q.seen q.ops put_rows r

  abbrev pub marked : Record → Record
  marked r = record r { share = mark r }

  put_rows_in_order : IsAscending put_rows
  put_rows_in_order = ascending-fold (records_written q.seen (puts_in q.ops)) q.seen fine.seen_in_order

  working_is : (x : List ℕ) → record_at (working q) x ≡ option_map marked (record_at put_rows x)
  working_is x = found-map marked (λ r. refl) put_rows x

  marked_by : (o : Option Record) (x : List ℕ) (w : Record) → record_at put_rows x ≡ o → option_map marked o ≡ Some w → (row : Record) × (record_at put_rows x ≡ Some row) × (marked row ≡ w)
  marked_by None x w at e = absurd (none-some None w refl e)
  marked_by (Some row) x w at e = (row, at, same_Some (marked row) w e)

  -- a record of the working view before it was marked
  pub unmarked : (x : List ℕ) (w : Record) → record_at (working q) x ≡ Some w → (row : Record) × (record_at put_rows x ≡ Some row) × (marked row ≡ w)
  unmarked x w is = marked_by (record_at put_rows x) x w refl (sym (working_is x) ∙ is)

  pub row_seen : (x : List ℕ) (row v : Record) → record_at put_rows x ≡ Some row → record_at q.seen x ≡ Some v → row.share ≡ v.share
  row_seen x row v at seen =
      let puts = puts_in q.ops in
      let c = changed_at q.seen puts x (put_at puts x) v refl seen in
      ap (λ (r : Record). r.share) (same_Some row c.row (sym at ∙ found-puts q.seen q.ops x ∙ ap (put_over q.seen (put_at puts x)) seen ∙ c.is)) ∙ c.share

  pub row_new : (x : List ℕ) (row : Record) → record_at put_rows x ≡ Some row → record_at q.seen x ≡ None → row.share ≡ None
  row_new x row at unseen =
      let puts = puts_in q.ops in
      let b = begun_at q.seen puts x (put_at puts x) row refl unseen (sym (ap (put_over q.seen (put_at puts x)) unseen) ∙ sym (found-puts q.seen q.ops x) ∙ at) in
      ap (λ (r : Record). r.share) (sym b.is)

  -- ---- new shares of a root

  abbrev is_new_of : List ℕ → Record → Bool
  is_new_of a s = is_share_of a s && not (is_there q.seen s.name)

  abbrev pub NewMark : List ℕ → List ℕ → Type 0
  NewMark a y = (w : Record) × (record_at (working q) y ≡ Some w) × (record_at q.seen y ≡ None) × ((core w).root ≡ Some a)

  mark_by : (o : Option Record) (a y : List ℕ) → find (is_new_of a) put_rows ≡ o → option_map_or (λ (r : Record). Some r.name) o None ≡ Some y → NewMark a y
  mark_by None a y at e = absurd (none_name y e)
  mark_by (Some t) a y at e =
      let name : t.name ≡ y = same_Some t.name y e in
      let found = first-found (is_new_of a) put_rows t put_rows_in_order at in
      let parts = and_parts (is_share_of a t) _ found.1 in
      let root : (core t).root ≡ Some a = some-same a (core t).root (sym (share_of-core a t) ∙ parts.0) in
      let unseen : record_at q.seen t.name ≡ None = unthere (record_at q.seen t.name) (sym (there-found q.seen t.name)
      ∙ false_from_ne_true (is_there q.seen t.name) (λ h. both_ways (not (is_there q.seen t.name)) (ap not h) parts.1)) in
      subst (NewMark a) name (marked t, working_is t.name ∙ ap (option_map marked) found.0, unseen, root)

  pub new_mark : (a y : List ℕ) → new_share_of q.seen put_rows a ≡ Some y → NewMark a y
  new_mark a y e = mark_by (find (is_new_of a) put_rows) a y refl e

  -- a root whose share is begun has a new share
  mark_there : (x a : List ℕ) (w : Record) → record_at (working q) x ≡ Some w → record_at q.seen x ≡ None → (core w).root ≡ Some a → (y : List ℕ) × (new_share_of q.seen put_rows a ≡ Some y)
  mark_there x a w is unseen root =
      let r = unmarked x w is in
      let of_root : is_share_of a r.0 ≡ true = share_of-core a r.0 ∙ ap (λ (t : Record). is_some_and (same a) (core t).root) r.2 ∙ ap (is_some_and (same a)) root ∙ same-refl a in
      let away : not (is_there q.seen r.0.name) ≡ true = ap not (ap (is_there q.seen) (sym (same-true x r.0.name (found-name put_rows x r.0 r.1))) ∙ there-found q.seen x ∙ ap is_some unseen) in
      let t = first-some (is_new_of a) put_rows (any-from (is_new_of a) put_rows x r.0 r.1 (and_from (is_share_of a r.0) _ of_root away)) in
      (t.0.name, ap (λ o. option_map_or (λ (s : Record). Some s.name) o None) t.1)

  -- ---- the root of a share that stays

  pub record RootOf (x a : List ℕ) : Type 0 where
    pub row : Record
    pub at : record_at (after_puts q) a ≡ Some row
    pub plain : is_share row ≡ false
    pub share : row.share ≡ Some x

  share_true : (a : List ℕ) (c : Record) → (core c).root ≡ Some a → is_share_of a c ≡ true
  share_true a c root = share_of-core a c ∙ ap (is_some_and (same a)) root ∙ same-refl a

  module _ (x a : List ℕ) (c : Record) (at : record_at (after_puts q) x ≡ Some c) (root : (core c).root ≡ Some a) (stays : is_in (removed q) x ≡ false) where
    pub root-stays : is_in (removed q) a ≡ false
    root-stays = false_from_ne_true (is_in (removed q) a) (λ e. both_ways (is_in (removed q) x) stays
        (along-gone q pasts fine x a c at e (or_right (goes_with a c) _ (or_right (not (is_in (taken q pasts fine) a) && is_some_and (is_ancestor (after_puts q) a) c.parent) (is_share_of a c) (share_true a c root)))))

    pub root-marked : (b : Record) → record_at (after_puts q) a ≡ Some b → is_unmarked q (removed q) b ≡ false
    root-marked b ab = false_from_ne_true (is_unmarked q (removed q) b) (λ e.
        let t = any-found (λ (s : Record). is_share_of b.name s && is_in (removed q) s.name) (after_puts q) (after_in_order q pasts fine) (and_parts (not (is_in (removed q) b.name)) _ e).1 in
        let parts = and_parts (is_share_of b.name t.0) _ t.2 in
        let its : (core t.0).root ≡ Some a = some-same b.name (core t.0).root (sym (share_of-core b.name t.0) ∙ parts.0) ∙ ap Some (sym (same-true a b.name (found-name (after_puts q) a b ab))) in
        both_ways (is_in (removed q) x) stays (subst (λ y. is_in (removed q) y ≡ true) (share-once q pasts fine t.0.name x a t.0 c t.1 at its root) parts.1))

    -- a new share of the root can only be this one
    same_new : (y : List ℕ) → new_share_of q.seen put_rows a ≡ Some y → (x ≡ y) × (record_at q.rows y ≡ None)
    same_new y e =
        let w = new_mark a y e in
        let r = reached q pasts fine y w.0 w.1 in
        (share-once q pasts fine x y a c r.row at r.at root (r.root ∙ w.3), (new-in-working q pasts fine y w.0 w.2 w.1).absent)

    no_new_by : (o : Option (List ℕ)) (z : Record) → new_share_of q.seen put_rows a ≡ o → record_at q.rows x ≡ Some z → o ≡ None
    no_new_by None z e there = refl
    no_new_by (Some y) z e there = let n = same_new y e in absurd (none-some (record_at q.rows y) z n.1 (ap (record_at q.rows) (sym n.0) ∙ there))

    not_lost : loses_mark q.caller.scope q.seen q.ops a ≡ false
    not_lost = false_from_ne_true (loses_mark q.caller.scope q.seen q.ops a) (λ e.
        let parts = and_parts (is_private q.caller.scope) _ e in
        let s = any-found (λ (r : Record). is_share_of a r && is_in (names_deleted q.ops) r.name) q.seen fine.seen_in_order parts.1 in
        let more = and_parts (is_share_of a s.0) _ s.2 in
        let old = old-after q pasts fine s.0.name s.0 (fine.part.part s.0.name s.0 s.1) in
        let its : (core old.row).root ≡ Some a = old.root ∙ some-same a (core s.0).root (sym (share_of-core a s.0) ∙ more.0) in
        let takes : is_taken_by_deletion q.caller q.seen s.0.name ≡ true = ap (is_some_and (λ (r : Record). is_private q.caller.scope || not (is_share r))) s.1 ∙ or_left (is_private q.caller.scope) (not (is_share s.0)) parts.0 in
        let gone = taken-gone q pasts fine s.0.name (kept (is_taken_by_deletion q.caller q.seen) (names_deleted q.ops) s.0.name takes more.1) in
        both_ways (is_in (removed q) x) stays (subst (λ y. is_in (removed q) y ≡ true) (share-once q pasts fine s.0.name x a old.row c old.at at its root) gone))

    mark_stays : (o : Option Record) (z t w : Record) → record_at q.seen a ≡ o → record_at q.rows x ≡ Some z → record_at q.rows a ≡ Some t → t.share ≡ Some x → record_at (working q) a ≡ Some w → w.share ≡ Some x
    mark_stays None z t w unseen there found its is = absurd (none-some (record_at q.rows a) t (new-in-working q pasts fine a w unseen is).absent found)
    mark_stays (Some v) z t w seen there found its is =
        let r = unmarked a w is in
        let name : r.0.name ≡ a = sym (same-true a r.0.name (found-name put_rows a r.0 r.1)) in
        let one : v ≡ t = same_Some v t (sym (fine.part.part a v seen) ∙ found) in
        ap (λ (u : Record). u.share) (sym r.2)
        ∙ mark_is q.caller.scope q.seen q.ops put_rows r.0
        ∙ ap (λ y. or_else (new_share_of q.seen put_rows y) (if loses_mark q.caller.scope q.seen q.ops y then None else r.0.share)) name
        ∙ ap (λ o. or_else o (if loses_mark q.caller.scope q.seen q.ops a then None else r.0.share)) (no_new_by (new_share_of q.seen put_rows a) z refl there)
        ∙ ap (λ b. if b then None else r.0.share) not_lost
        ∙ row_seen a r.0 v r.1 seen ∙ ap (λ (u : Record). u.share) one ∙ its

    old_mark_by : (b : Bool) (w : Option Record) (z t row : Record) → is_put q a ≡ b → record_at (working q) a ≡ w → record_at q.rows x ≡ Some z → record_at q.rows a ≡ Some t → t.share ≡ Some x
        → record_at (after_puts q) a ≡ Some row → row.share ≡ Some x
    old_mark_by false w z t row put is there found its ab = ap (λ (r : Record). r.share) (sym (same_Some (after_leaving q t) row (sym (after_is q pasts fine false w (Some t) a put is found) ∙ ab))) ∙ leaving-share q t ∙ its
    old_mark_by true None z t row put is there found its ab = ap (λ (r : Record). r.share) (sym (same_Some (after_leaving q t) row (sym (after_is q pasts fine true None (Some t) a put is found) ∙ ab))) ∙ leaving-share q t ∙ its
    old_mark_by true (Some w) z t row put is there found its ab = ap (λ (r : Record). r.share) (sym (same_Some (after_leaving q w) row (sym (after_is q pasts fine true (Some w) (Some t) a put is found) ∙ ab))) ∙ leaving-share q w
        ∙ mark_stays (record_at q.seen a) z t w refl there found its is

    old_root_of : (z : Record) → record_at q.rows x ≡ Some z → RootOf x a
    old_root_of z there =
        let old = old-after q pasts fine x z there in
        let zroot : (core z).root ≡ Some a = sym old.root ∙ ap (λ (r : Record). (core r).root) (same_Some old.row c (sym old.at ∙ at)) ∙ root in
        let s = zone-share q pasts fine x a z there zroot in
        let b = plain-zone q pasts fine a s.plain in
        record { row = b.0; at = b.1; plain = b.2; share = old_mark_by (is_put q a) (record_at (working q) a) z s.row b.0 refl refl there s.at s.share b.1 }

    new_root_of : record_at q.rows x ≡ None → RootOf x a
    new_root_of absent =
        let added = added-after q pasts fine x c absent at in
        let w = added.row in
        let wroot : (core w).root ≡ Some a = sym (ap (λ (t : Core). t.root) (leaving-core q w)) ∙ ap (λ (r : Record). (core r).root) added.is ∙ root in
        let s = new-share q pasts fine x a w added.new wroot in
        let b = plain-working q pasts fine a s.plain in
        let t = plain-found (ground q pasts).working a s.plain in
        let wa = judged-working q pasts fine a t.0 t.1 in
        let away : not (is_there q.seen w.name) ≡ true = ap not (ap (is_there q.seen) (sym (same-true x w.name (found-name (working q) x w added.at))) ∙ there-found q.seen x ∙ ap is_some added.new.unseen) in
        let put : is_put q a ≡ true = or_right (list_any (λ (p : NamedOp). same a p.name) (puts_in q.ops)) (list_any (is_new_share_of q.seen a) (working q))
        (any-from (is_new_share_of q.seen a) (working q) x w added.at (and_from (is_share_of a w) _ (share_true a w wroot) away)) in
        let r = unmarked a wa.0 wa.1 in
        let name : r.0.name ≡ a = sym (same-true a r.0.name (found-name put_rows a r.0 r.1)) in
        let m = mark_there x a w added.at added.new.unseen wroot in
        let mine : x ≡ m.0 = (same_new m.0 m.1).0 in
        let marks : wa.0.share ≡ Some x = ap (λ (u : Record). u.share) (sym r.2)
        ∙ mark_is q.caller.scope q.seen q.ops put_rows r.0
        ∙ ap (λ y. or_else (new_share_of q.seen put_rows y) (if loses_mark q.caller.scope q.seen q.ops y then None else r.0.share)) name
        ∙ ap (λ o. or_else o (if loses_mark q.caller.scope q.seen q.ops a then None else r.0.share)) m.1 ∙ ap Some (sym mine) in
        let row : after_leaving q wa.0 ≡ b.0 = same_Some (after_leaving q wa.0) b.0 (sym (after_is q pasts fine true (Some wa.0) (record_at q.rows a) a put wa.1 refl) ∙ b.1) in
        record { row = b.0; at = b.1; plain = b.2; share = ap (λ (u : Record). u.share) (sym row) ∙ leaving-share q wa.0 ∙ marks }

    root_by : (o : Option Record) → record_at q.rows x ≡ o → RootOf x a
    root_by (Some z) there = old_root_of z there
    root_by None absent = new_root_of absent

    -- the root of a share that stays is there and has it
    pub root-there : RootOf x a
    root-there = root_by (record_at q.rows x) refl

    parent_by : (o : Option Record) → record_at q.rows x ≡ o → is_none c.parent ≡ true
    parent_by (Some z) there =
        let old = old-after q pasts fine x z there in
        let one : old.row ≡ c = same_Some old.row c (sym old.at ∙ at) in
        ap is_none (ap (λ (r : Record). r.parent) (sym one) ∙ old.parent) ∙ (zone-share q pasts fine x a z there (sym old.root ∙ ap (λ (r : Record). (core r).root) one ∙ root)).parent
    parent_by None absent =
        let added = added-after q pasts fine x c absent at in
        let w = added.row in
        let wroot : (core w).root ≡ Some a = sym (ap (λ (t : Core). t.root) (leaving-core q w)) ∙ ap (λ (r : Record). (core r).root) added.is ∙ root in
        ap is_none (ap (λ (r : Record). r.parent) (sym added.is) ∙ ap (λ (t : Core). t.parent) (leaving-core q w)) ∙ ap not (new-share q pasts fine x a w added.new wroot).parent

    -- a share that stays has no parent
    pub share-parent : is_none c.parent ≡ true
    share-parent = parent_by (record_at q.rows x) refl
