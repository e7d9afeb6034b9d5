-- What a participant may write shows in what they see.
use Rattle.std.proofs.Common.{◌≡◌, ℕ, List, [], ◌∷◌, Bool, true, false, cond, ◌&&◌, ◌||◌, refl, sym, ap, ◌∙◌, subst, Some, None, Option, inl, inr, ⊎_elim}
use Rattle.std.specs.Prelude.{◌⊎◌, filter, nat_le, if◌then◌else◌}
use Rattle.std.specs.List.{list_any, list_all}
use Rattle.std.proofs.lemmas.Bool.{both_ways, and_parts, and_from, or_left, or_right, or_cases, cond-true}
use Rattle.std.proofs.lemmas.Option.{same_Some}
use Rattle.ck_base.specs.Order.{is_before}
use Rattle.ck_base.specs.declared.key.ZoneKey.{ZoneKey}
use Rattle.ck_base.specs.declared.scope.Scope.TheVariants.{Shared}
use Rattle.share_records.specs.declared.permission.Permission.{Permission}
use Rattle.share_records.specs.declared.permission.Permission.TheVariants.{Nothing, ReadOnly, ReadWrite}
use Rattle.share_records.specs.declared.share.Share.{Share as ShareOf}
use Rattle.record_model.specs.declared.records.Record.{Record}
use Rattle.zone_model.specs.declared.commits.Commit.{Commit}
use Rattle.zone_model.specs.Names.{same, is_default}
use Rattle.name_rules.specs.Options.{is_some_and}
use Rattle.zone_model.specs.Records.{record_at, names_in, share_of, IsAscending}
use Rattle.share_records.specs.Permissions.{rank, permission_in, gives, has_accepted}
use Rattle.zone_model.specs.Zones.{zone_at}
use Rattle.zone_model.specs.Ancestry.{IsAncestor, is_ancestor}
use Rattle.name_rules.specs.Parents.{here, up}
use Rattle.zone_model.specs.Coverage.{covers, may_write}
use Rattle.zone_model.specs.Views.{nowhere, is_visible, owner_view, participant_view, view_of}
use Rattle.zone_model.specs.Grounds.{grounds_of}
use Rattle.zone_laws.specs.Laws.{IsParticipantsZone, PermissionsAreSeen, IsCoveredBy, NothingElseIsSeen}
use Rattle.name_rules.proofs.NameLemmas.{same-true, same-refl}
use Rattle.zone_laws.proofs.AncestryLaws.{is_ancestor_from, is_ancestor_gives, record_reaches, gives_at-records}
use Rattle.zone_laws.proofs.OrderLaws.{ascending-zone, ascending-some}
use Rattle.zone_laws.proofs.RecordLaws.{none-some, found-name, found-below, later_step}
use Rattle.zone_laws.proofs.FormedLaws.{found-some, found-among}
use Rattle.zone_laws.proofs.ParentLaws.{from_parent_at, to_parent_at}
use Rattle.zone_laws.proofs.WritableLaws.{nearest-found}

-- ---- records that pass a test

alike : (a b : Bool) → (a ≡ true → b ≡ true) → (b ≡ true → a ≡ true) → a ≡ b
alike true b there back = sym (there refl)
alike false true there back = back refl
alike false false there back = refl

any_step : (s : Bool) (p : Record → Bool) (q r : Record) (o : Option Record) (rest : Bool) → p r ≡ true → (o ≡ Some r → rest ≡ true) → cond s (Some q) o ≡ Some r → (p q || rest) ≡ true
any_step true p q r o rest pr ih e = or_left (p q) rest (subst (λ (w : Record). p w ≡ true) (sym (same_Some q r e)) pr)
any_step false p q r o rest pr ih e = or_right (p q) rest (ih e)

any-found : (p : Record → Bool) (rows : List Record) (x : List ℕ) (r : Record) → record_at rows x ≡ Some r → p r ≡ true → list_any p rows ≡ true
any-found p [] x r e pr = absurd (none-some None r refl e)
any-found p (q ∷ rows) x r e pr = any_step (same x q.name) p q r (record_at rows x) (list_any p rows) pr (λ f. any-found p rows x r f pr) e

pub found-any : (p : Record → Bool) (rows : List Record) → IsAscending rows → list_any p rows ≡ true → (r : Record) × (record_at rows r.name ≡ Some r) × (p r ≡ true)
found-any p [] ascend e = absurd (both_ways false refl e)
found-any p (r ∷ rows) ascend e =
    let parts = and_parts (list_all (is_before r.name) (names_in rows)) _ ascend in
    ⊎_elim
    (λ (h : p r ≡ true). (r, cond-true (same r.name r.name) (Some r) (record_at rows r.name) (same-refl r.name), h))
    (λ (h : list_any p rows ≡ true).
    let q = found-any p rows parts.1 h in
    (q.0, later_step (same q.0.name r.name) r q.0 rows q.0.name refl (found-below r.name rows parts.0) q.1, q.2))
    (or_cases (p r) (list_any p rows) e)

-- ---- permissions

reads_too : (p : Permission) → nat_le 2 (rank p) ≡ true → nat_le 1 (rank p) ≡ true
reads_too Nothing e = absurd (both_ways false refl e)
reads_too ReadOnly e = refl
reads_too ReadWrite e = refl

-- whoever may write has accepted
accepted : (u : List ℕ) (o : Option ShareOf) (test : ShareOf → Bool) → is_some_and (λ (s : ShareOf). test s && gives ReadWrite u s) o ≡ true → is_some_and (has_accepted u) o ≡ true
accepted u None test e = e
accepted u (Some s) test e = reads_too (permission_in s u) (and_parts (test s) (gives ReadWrite u s) e).1

-- ---- a participant's view

module _ (rows : List Record) (u : List ℕ) (ascend : IsAscending rows) where
  abbrev seen : List Record
  seen = filter (is_visible rows u) rows

  shares_seen : (x : List ℕ) (r : Record) → record_at rows x ≡ Some r → is_some_and (has_accepted u) (share_of r) ≡ true → record_at seen x ≡ Some r
  shares_seen x r at accepts = found-among (is_visible rows u) rows x r at (or_right (covers rows u r.name) (is_some_and (has_accepted u) (share_of r)) accepts)

  reach : (o : Option ShareOf) (s : ShareOf) (y : List ℕ) → o ≡ Some s → has_accepted u s ≡ true → is_ancestor rows s.root y ≡ true → is_some_and (λ (t : ShareOf). is_ancestor rows t.root y && gives ReadOnly u t) o ≡ true
  reach o s y is accepts above = ap (is_some_and (λ (t : ShareOf). is_ancestor rows t.root y && gives ReadOnly u t)) is ∙ and_from (is_ancestor rows s.root y) _ above accepts

  module _ (x : List ℕ) (r : Record) (s : ShareOf) (at : record_at rows x ≡ Some r) (is : share_of r ≡ Some s) (accepts : has_accepted u s ≡ true) where
    chain_seen : (y : List ℕ) (t : Record) → IsAncestor rows s.root y → record_at rows y ≡ Some t → record_at seen y ≡ Some t
    chain_seen y t above there =
        let covered : covers rows u y ≡ true = gives_at-records rows ReadOnly u y ∙ any-found (record_reaches rows ReadOnly u y) rows x r at (reach (share_of r) s y is accepts (is_ancestor_from rows s.root y above)) in
        found-among (is_visible rows u) rows y t there
        (or_left (covers rows u t.name) (is_some_and (has_accepted u) (share_of t)) (subst (λ z. covers rows u z ≡ true) (same-true y t.name (found-name rows y t there)) covered))

    to_seen : (y : List ℕ) → IsAncestor rows s.root y → IsAncestor seen s.root y
    to_seen _ (here y e) = here y e
    to_seen _ (up y p e above) =
        let t = from_parent_at rows y p e in
        up y p (to_parent_at seen y p t.0 (chain_seen y t.0 (up y p e above) t.1) t.2) (to_seen p above)

  to_rows : (a y : List ℕ) → IsAncestor seen a y → IsAncestor rows a y
  to_rows a _ (here y e) = here y e
  to_rows a _ (up y p e above) =
      let t = from_parent_at seen y p e in
      up y p (to_parent_at rows y p t.0 (found-some (is_visible rows u) rows y t.0 ascend t.1).0 t.2) (to_rows a p above)

  reach_out : (o : Option ShareOf) (x : List ℕ) → is_some_and (λ (s : ShareOf). is_ancestor seen s.root x && gives ReadWrite u s) o ≡ true
      → is_some_and (λ (s : ShareOf). is_ancestor rows s.root x && gives ReadWrite u s) o ≡ true
  reach_out None x e = e
  reach_out (Some s) x e =
      let parts = and_parts (is_ancestor seen s.root x) _ e in
      and_from (is_ancestor rows s.root x) _ (is_ancestor_from rows s.root x (to_rows s.root x (is_ancestor_gives seen s.root x parts.0))) parts.1

  reach_in : (o : Option ShareOf) (x : List ℕ) (r : Record) → share_of r ≡ o → record_at rows r.name ≡ Some r
      → is_some_and (λ (s : ShareOf). is_ancestor rows s.root x && gives ReadWrite u s) o ≡ true
      → is_some_and (λ (s : ShareOf). is_ancestor seen s.root x && gives ReadWrite u s) o ≡ true
  reach_in None x r is at e = e
  reach_in (Some s) x r is at e =
      let parts = and_parts (is_ancestor rows s.root x) _ e in
      and_from (is_ancestor seen s.root x) _
      (is_ancestor_from seen s.root x (to_seen r.name r s at is (reads_too (permission_in s u) parts.1) x (is_ancestor_gives rows s.root x parts.0))) parts.1

  written_out : (x : List ℕ) → may_write seen u x ≡ true → may_write rows u x ≡ true
  written_out x e =
      let r = found-any (record_reaches seen ReadWrite u x) seen (ascending-some (is_visible rows u) rows ascend) (sym (gives_at-records seen ReadWrite u x) ∙ e) in
      gives_at-records rows ReadWrite u x ∙ any-found (record_reaches rows ReadWrite u x) rows r.0.name r.0 (found-some (is_visible rows u) rows r.0.name r.0 ascend r.1).0 (reach_out (share_of r.0) x r.2)

  written_in : (x : List ℕ) → may_write rows u x ≡ true → may_write seen u x ≡ true
  written_in x e =
      let r = found-any (record_reaches rows ReadWrite u x) rows ascend (sym (gives_at-records rows ReadWrite u x) ∙ e) in
      gives_at-records seen ReadWrite u x ∙ any-found (record_reaches seen ReadWrite u x) seen r.0.name r.0 (shares_seen r.0.name r.0 r.1 (accepted u (share_of r.0) (λ (s : ShareOf). is_ancestor rows s.root x) r.2))
      (reach_in (share_of r.0) x r.0 refl r.1 r.2)

-- ---- the law

participants_rows : (log : List Commit) (key : ZoneKey) (u : List ℕ) → IsParticipantsZone key u → (view_of log u Shared key).rows ≡ filter (is_visible (zone_at log key).rows u) (zone_at log key).rows
participants_rows log key u apart i = (if apart.0 i || apart.1 i then nowhere else participant_view (zone_at log key) u).rows

writing : (log : List Commit) (key : ZoneKey) (u x : List ℕ) → IsParticipantsZone key u → may_write (view_of log u Shared key).rows u x ≡ may_write (zone_at log key).rows u x
writing log key u x apart =
    let rows = (zone_at log key).rows in
    let ascend = ascending-zone log key in
    ap (λ some. may_write some u x) (participants_rows log key u apart)
    ∙ alike (may_write (seen rows u ascend) u x) (may_write rows u x) (written_out rows u ascend x) (written_in rows u ascend x)

tests_alike : (p q : List ℕ → Bool) → ((x : List ℕ) → p x ≡ q x) → (o : Option (List ℕ)) → is_some_and p o ≡ is_some_and q o
tests_alike p q each None = refl
tests_alike p q each (Some x) = each x

pub permissions_seen : PermissionsAreSeen
permissions_seen = record {
  share = λ log key u x r apart at accepts.
      subst (λ rows. record_at rows x ≡ Some r) (sym (participants_rows log key u apart)) (shares_seen (zone_at log key).rows u (ascending-zone log key) x r at accepts);
  chain = λ log key u x y r t s apart at is accepts above there.
      subst (λ rows. record_at rows y ≡ Some t) (sym (participants_rows log key u apart)) (chain_seen (zone_at log key).rows u (ascending-zone log key) x r s at is accepts y t above there);
  writing = writing;
  judging = λ log caller pasts ops x y scope apart near.
      let g = grounds_of caller pasts (view_of log caller.user caller.scope caller.key).rows ops in
      ap (is_some_and (may_write g.seen caller.user)) (nearest-found g y x near)
      ∙ ap (λ s. may_write (view_of log caller.user s caller.key).rows caller.user y) scope ∙ writing log caller.key caller.user y apart;
}

-- ---- nothing else is seen

covered_by : (rows : List Record) (u x : List ℕ) (t : Record) (o : Option ShareOf) → record_at rows t.name ≡ Some t → share_of t ≡ o
    → is_some_and (λ (s : ShareOf). is_ancestor rows s.root x && gives ReadOnly u s) o ≡ true → IsCoveredBy rows u x t
covered_by rows u x t None at is e = absurd (both_ways false refl e)
covered_by rows u x t (Some s) at is e =
    let parts = and_parts (is_ancestor rows s.root x) (gives ReadOnly u s) e in
    record { share = s; there = at; is = is; accepted = parts.1; above = is_ancestor_gives rows s.root x parts.0 }

abbrev SeenRightly : List Record → List ℕ → List ℕ → Record → Type 0
SeenRightly rows u x r = (record_at rows x ≡ Some r) × ((is_some_and (has_accepted u) (share_of r) ≡ true) ⊎ ((t : Record) × IsCoveredBy rows u x t))

seen_rightly : (rows : List Record) (u x : List ℕ) (r : Record) → IsAscending rows → record_at (filter (is_visible rows u) rows) x ≡ Some r → SeenRightly rows u x r
seen_rightly rows u x r ascend e =
    let found = found-some (is_visible rows u) rows x r ascend e in
    let at : record_at rows x ≡ Some r = found.0 in (
      at,
      ⊎_elim
          (λ (covered : covers rows u r.name ≡ true).
          let t = found-any (record_reaches rows ReadOnly u r.name) rows ascend (sym (gives_at-records rows ReadOnly u r.name) ∙ covered) in
          inr (t.0, subst (λ y. IsCoveredBy rows u y t.0) (sym (same-true x r.name (found-name rows x r at))) (covered_by rows u r.name t.0 (share_of t.0) t.1 refl t.2)))
          (λ (accepts : is_some_and (has_accepted u) (share_of r) ≡ true). inl accepts)
          (or_cases (covers rows u r.name) (is_some_and (has_accepted u) (share_of r)) found.1),
    )

of_others : (log : List Commit) (key : ZoneKey) (u x : List ℕ) (r : Record) (hidden : Bool) → record_at (if hidden then nowhere else participant_view (zone_at log key) u).rows x ≡ Some r → SeenRightly (zone_at log key).rows u x r
of_others log key u x r true e = absurd (none-some None r refl e)
of_others log key u x r false e = seen_rightly (zone_at log key).rows u x r (ascending-zone log key) e

hides : (log : List Commit) (key : ZoneKey) (u : List ℕ) → (same u key.owner || is_default key) ≡ true → view_of log u Shared key ≡ nowhere
hides log key u e = ap (λ b. if b then nowhere else participant_view (zone_at log key) u) e

pub nothing_else : NothingElseIsSeen
nothing_else = record {
  records = λ log key u x r e. of_others log key u x r (same u key.owner || is_default key) e;
  strangers = λ log key u e. ap (λ b. if b then owner_view (zone_at log key) else nowhere) e;
  own = λ log key u e. hides log key u (or_left (same u key.owner) (is_default key) e);
  defaults = λ log key u e. hides log key u (or_right (same u key.owner) (is_default key) e);
}
