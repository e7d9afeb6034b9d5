-- What is read of a reply has its form.
use Rattle.std.proofs.Common.{◌≡◌, ℕ, List, [], ◌∷◌, map, true, length, Option, Some, refl, sym, ap, subst, ◌∙◌}
use Rattle.std.specs.List.{AllByRecursion, list_all}
use Rattle.std.proofs.lemmas.Bool.{and_parts, and_from}
use Rattle.serde_json.specs.Data.{Data}
use Rattle.ck_base.specs.Names.{IsName}
use Rattle.ck_base.specs.Order.{are_ascending}
use Rattle.record_model.specs.declared.value.Value.{Value}
use Rattle.share_records.specs.declared.participant.Participant.{Participant}
use Rattle.share_records.specs.declared.participant.Wanted.{Wanted}
use Rattle.record_model.specs.Counts.{are_counted}
use Rattle.record_model.specs.DraftForms.{IsWanted, IsWish, AreWishes}
use Rattle.record_model.specs.RecordForms.{IsField, AreFields, keeps, IsParticipant, AreParticipants}
use Rattle.ck_records.specs.Shown.{as_wish, with_statuses, are_kept}

abbrev Field : Type 0
Field = List ℕ × Value

-- ---- fields

each_field : (fields : List Field) → AllByRecursion IsWish (map as_wish fields) → AllByRecursion IsField fields
each_field [] all = tt
each_field (f ∷ fields) all = (all.0, each_field fields all.1)

names_stay : (fields : List Field) → map (λ (w : List ℕ × Option Value). w.0) (map as_wish fields) ≡ map (λ (f : Field). f.0) fields
names_stay [] = refl
names_stay (f ∷ fields) = ap (λ names. f.0 ∷ names) (names_stay fields)

pub fields_kept : (fields : List Field) (wishes : List (List ℕ × Option Value)) → map as_wish fields ≡ wishes → AreWishes wishes → are_counted fields ≡ true → AreFields fields
fields_kept fields wishes e are counted =
    let these : AreWishes (map as_wish fields) = subst AreWishes (sym e) are in
    (each_field fields these.0, ap are_ascending (sym (names_stay fields)) ∙ these.1, counted)

-- ---- participants

abbrev HasUser : Participant → Type 0
HasUser p = IsName p.user

each_kept : (ps : List Participant) → AllByRecursion HasUser ps → list_all keeps ps ≡ true → AllByRecursion IsParticipant ps
each_kept [] users kept = tt
each_kept (p ∷ ps) users kept =
    let parts = and_parts (keeps p) _ kept in
    ((users.0, parts.0), each_kept ps users.1 parts.1)

-- whoever is wanted has a name
users_kept : (ws : List Wanted) (ds : List Data) → AllByRecursion IsWanted ws → AllByRecursion HasUser (with_statuses ws ds)
users_kept [] ds all = tt
users_kept (w ∷ ws) [] all = tt
users_kept (w ∷ ws) (d ∷ ds) all = (all.0.0, users_kept ws ds all.1)

pub kept_participants : (ps : List Participant) (ws : List Wanted) (ds : List Data) → ps ≡ with_statuses ws ds → AllByRecursion IsWanted ws → are_kept ps ≡ true → AreParticipants ps
kept_participants ps ws ds e all kept =
    let parts = and_parts (list_all keeps ps) _ kept in
    let rest = and_parts (are_ascending (map (λ (p : Participant). p.user) ps)) _ parts.1 in
    (each_kept ps (subst (AllByRecursion HasUser) (sym e) (users_kept ws ds all)) parts.0, rest.0, rest.1)

all_keep : (ps : List Participant) → AllByRecursion IsParticipant ps → list_all keeps ps ≡ true
all_keep [] all = refl
all_keep (p ∷ ps) all = and_from (keeps p) _ all.0.1 (all_keep ps all.1)

pub participants_kept : (ps : List Participant) → AreParticipants ps → are_kept ps ≡ true
participants_kept ps is =
    and_from (list_all keeps ps) _ (all_keep ps is.0)
    (and_from (are_ascending (map (λ (p : Participant). p.user) ps)) _ is.1 is.2)
