-- The forms of fields, participants and records stay.
use Rattle.std.proofs.Common.{◌≡◌, ℕ, suc, ◌+◌, ◌≤◌, ◌^◌, List, [], ◌∷◌, ◌++◌, length, Bool, true, false, cond, not, refl, sym, ap, ◌∙◌, subst, arith, Some, None, Option, map}
use Rattle.std.specs.Prelude.{filter, filter_map, fold, find, nat_lt, if◌then◌else◌, IfSome}
use Rattle.std.specs.Option.{option_map_or}
use Rattle.std.specs.List.{list_all, cons_option, sum_by, AllByRecursion}
use Rattle.std.proofs.lemmas.Bool.{both_ways, and_parts, and_from, or_parts, ltb-true, ltb-false, lt-ltb}
use Rattle.std.proofs.lemmas.List.{map-append}
use Rattle.std.proofs.lemmas.Option.{same_Some}
use Rattle.ck_base.specs.Names.{IsName}
use Rattle.ck_base.specs.Guids.{IsGuid}
use Rattle.ck_base.specs.Order.{is_before, are_ascending}
use Rattle.record_model.specs.declared.value.Value.{Value}
use Rattle.record_model.specs.ValueForms.{IsMeant}
use Rattle.record_model.specs.RecordSizes.{size_of_field}
use Rattle.record_model.proofs.CountLemmas.{fields_counted}
use Rattle.share_records.specs.declared.permission.Permission.{Permission}
use Rattle.share_records.specs.declared.permission.Permission.TheVariants.{Nothing, ReadOnly, ReadWrite}
use Rattle.share_records.specs.declared.participant.PartKind.{PartKind}
use Rattle.share_records.specs.declared.participant.PartKind.TheVariants.{Member, Public}
use Rattle.share_records.specs.declared.participant.Participant.{Participant}
use Rattle.share_records.specs.declared.participant.Wanted.{Wanted}
use Rattle.share_records.specs.declared.share.Share.{Share as ShareOf}
use Rattle.record_model.specs.declared.draft.Draft.{Draft}
use Rattle.record_model.specs.declared.records.Body.{Body}
use Rattle.record_model.specs.declared.records.Body.TheVariants.{Plain, Share}
use Rattle.record_model.specs.DraftForms.{may_have, IsWish, IsWanted}
use Rattle.record_model.specs.RecordForms.{IsField, AreFields, is_kept, IsParticipant, AreParticipants, IsShare, IsBodyOf}
use Rattle.zone_model.specs.Limits.{most_participants, most_record_size}
use Rattle.zone_model.specs.Names.{same, with_name}
use Rattle.name_rules.specs.Options.{is_some_and}
use Rattle.share_records.specs.Permissions.{is_public}
use Rattle.zone_model.specs.Sharing.{share_after}
use Rattle.share_records.specs.ShareLists.{participant_at, kept_as, with_participant, rewritten, is_refused_list, first_share}
use Rattle.share_records.proofs.ListLemmas.{refused-is}
use Rattle.zone_model.specs.Putting.{after_wish, after_wishes, body_after}
use Rattle.zone_model.specs.Effect.{body_without}
use Rattle.name_rules.proofs.NameLemmas.{before-trans, before-asym}

-- ---- names in order

all_step : (b : Bool) (p : List ℕ → Bool) (x : List ℕ) (ys : List (List ℕ)) → p x ≡ true → list_all p ys ≡ true → list_all p (cond b (x ∷ ys) ys) ≡ true
all_step true p x ys one all = and_from (p x) _ one all
all_step false p x ys one all = all

all_some : (p t : List ℕ → Bool) (xs : List (List ℕ)) → list_all p xs ≡ true → list_all p (filter t xs) ≡ true
all_some p t [] all = refl
all_some p t (x ∷ xs) all = let parts = and_parts (p x) _ all in all_step (t x) p x (filter t xs) parts.0 (all_some p t xs parts.1)

order_step : (b : Bool) (x : List ℕ) (ys : List (List ℕ)) → list_all (is_before x) ys ≡ true → are_ascending ys ≡ true → are_ascending (cond b (x ∷ ys) ys) ≡ true
order_step true x ys first rest = and_from (list_all (is_before x) ys) _ first rest
order_step false x ys first rest = rest

names-some : (t : List ℕ → Bool) (xs : List (List ℕ)) → are_ascending xs ≡ true → are_ascending (filter t xs) ≡ true
names-some t [] ascend = refl
names-some t (x ∷ xs) ascend = let parts = and_parts (list_all (is_before x) xs) _ ascend in order_step (t x) x (filter t xs) (all_some (is_before x) t xs parts.0) (names-some t xs parts.1)

passed_step : (b : Bool) (p : List ℕ → Bool) (x : List ℕ) (ys : List (List ℕ)) → p x ≡ b → list_all p ys ≡ true → list_all p (cond b (x ∷ ys) ys) ≡ true
passed_step true p x ys is all = and_from (p x) _ is all
passed_step false p x ys is all = all

all_passed : (p : List ℕ → Bool) (xs : List (List ℕ)) → list_all p (filter p xs) ≡ true
all_passed p [] = refl
all_passed p (x ∷ xs) = passed_step (p x) p x (filter p xs) refl (all_passed p xs)

all_join : (p : List ℕ → Bool) (front : List (List ℕ)) (x : List ℕ) (back : List (List ℕ)) → list_all p front ≡ true → p x ≡ true → list_all p back ≡ true → list_all p (front ++ x ∷ back) ≡ true
all_join p [] x back all one more = and_from (p x) _ one more
all_join p (y ∷ front) x back all one more = let parts = and_parts (p y) _ all in and_from (p y) _ parts.0 (all_join p front x back parts.1 one more)

all_after : (x y : List ℕ) (names : List (List ℕ)) → is_before x y ≡ true → list_all (is_before y) names ≡ true → list_all (is_before x) names ≡ true
all_after x y [] e all = refl
all_after x y (z ∷ names) e all = let parts = and_parts (is_before y z) _ all in and_from (is_before x z) _ (before-trans x y z e parts.0) (all_after x y names e parts.1)

join : (front : List (List ℕ)) (x : List ℕ) (back : List (List ℕ)) → are_ascending front ≡ true → list_all (λ y. is_before y x) front ≡ true → are_ascending back ≡ true → list_all (is_before x) back ≡ true
    → are_ascending (front ++ x ∷ back) ≡ true
join [] x back up low ascend all = and_from (list_all (is_before x) back) _ all ascend
join (y ∷ front) x back up low ascend all =
    let ups = and_parts (list_all (is_before y) front) _ up in
    let lows = and_parts (is_before y x) _ low in
    and_from (list_all (is_before y) (front ++ x ∷ back)) _ (all_join (is_before y) front x back ups.0 lows.0 (all_after y x back lows.0 all)) (join front x back ups.1 lows.1 ascend all)

pub names-with : (xs : List (List ℕ)) (x : List ℕ) → are_ascending xs ≡ true → are_ascending (with_name xs x) ≡ true
names-with xs x ascend = join (filter (λ y. is_before y x) xs) x (filter (is_before x) xs)
    (names-some (λ y. is_before y x) xs ascend) (all_passed (λ y. is_before y x) xs) (names-some (is_before x) xs ascend) (all_passed (is_before x) xs)

-- ---- lists with names

filtered_step : {X : Type 0} (b : Bool) (f : X → List ℕ) (x : X) (some : List X) (names : List (List ℕ)) → map f some ≡ names → map f (cond b (x ∷ some) some) ≡ cond b (f x ∷ names) names
filtered_step true f x some names e = ap (λ ns. f x ∷ ns) e
filtered_step false f x some names e = e

map-filter : {X : Type 0} (f : X → List ℕ) (t : List ℕ → Bool) (xs : List X) → map f (filter (λ x. t (f x)) xs) ≡ filter t (map f xs)
map-filter f t [] = refl
map-filter f t (x ∷ xs) = filtered_step (t (f x)) f x (filter (λ y. t (f y)) xs) (filter t (map f xs)) (map-filter f t xs)

map-with : {X : Type 0} (f : X → List ℕ) (xs : List X) (x : X) → map f (filter (λ y. is_before (f y) (f x)) xs ++ x ∷ filter (λ y. is_before (f x) (f y)) xs) ≡ with_name (map f xs) (f x)
map-with f xs x = map-append f (filter (λ y. is_before (f y) (f x)) xs) (x ∷ filter (λ y. is_before (f x) (f y)) xs)
    ∙ ap (λ ns. ns ++ f x ∷ map f (filter (λ y. is_before (f x) (f y)) xs)) (map-filter f (λ y. is_before y (f x)) xs)
    ∙ ap (λ ns. filter (λ y. is_before y (f x)) (map f xs) ++ f x ∷ ns) (map-filter f (is_before (f x)) xs)

every_step : {X : Type 0} (b : Bool) (P : X → Type 0) (x : X) (some : List X) → P x → AllByRecursion P some → AllByRecursion P (cond b (x ∷ some) some)
every_step true P x some one all = (one, all)
every_step false P x some one all = all

pub every-filter : {X : Type 0} (P : X → Type 0) (t : X → Bool) (xs : List X) → AllByRecursion P xs → AllByRecursion P (filter t xs)
every-filter P t [] all = tt
every-filter P t (x ∷ xs) all = every_step (t x) P x (filter t xs) all.0 (every-filter P t xs all.1)

pub every-append : {X : Type 0} (P : X → Type 0) (xs ys : List X) → AllByRecursion P xs → AllByRecursion P ys → AllByRecursion P (xs ++ ys)
every-append P [] ys all more = more
every-append P (x ∷ xs) ys all more = (all.0, every-append P xs ys all.1 more)

pub every-front : {X : Type 0} (P : X → Type 0) (xs ys : List X) → AllByRecursion P (xs ++ ys) → AllByRecursion P xs
every-front P [] ys all = tt
every-front P (x ∷ xs) ys all = (all.0, every-front P xs ys all.1)

pub every-back : {X : Type 0} (P : X → Type 0) (xs ys : List X) → AllByRecursion P (xs ++ ys) → AllByRecursion P ys
every-back P [] ys all = all
every-back P (x ∷ xs) ys all = every-back P xs ys all.1

found_step : {X : Type 0} (b : Bool) (P : X → Type 0) (x y : X) (o : Option X) → P x → (o ≡ Some y → P y) → cond b (Some x) o ≡ Some y → P y
found_step true P x y o one more e = subst P (same_Some x y e) one
found_step false P x y o one more e = more e

every-found : {X : Type 0} (P : X → Type 0) (t : X → Bool) (xs : List X) (y : X) → AllByRecursion P xs → find t xs ≡ Some y → P y
every-found P t [] y all e = absurd (both_ways false refl (ap (λ o. option_map_or (λ _. true) o false) e))
every-found P t (x ∷ xs) y all e = found_step (t x) P x y (find t xs) all.0 (every-found P t xs y all.1) e

-- ---- fields

-- each has its form, and their names ascend
abbrev pub AreInOrder : List (List ℕ × Value) → Type 0
AreInOrder fields = AllByRecursion IsField fields × (are_ascending (map (λ (f : List ℕ × Value). f.0) fields) ≡ true)

one_wish : (fields : List (List ℕ × Value)) (x : List ℕ) (o : Option Value) → AreInOrder fields → IsName x → IfSome o IsMeant → AreInOrder (after_wish fields (x, o))
one_wish fields x None are name meant = (every-filter IsField _ fields are.0, subst (λ ns. are_ascending ns ≡ true) (sym (map-filter (λ (f : List ℕ × Value). f.0) (λ y. not (same x y)) fields)) (names-some (λ y. not (same x y)) (map (λ (f : List ℕ × Value). f.0) fields) are.1))
one_wish fields x (Some v) are name meant = (
  every-append IsField _ _ (every-filter IsField _ fields are.0) ((name, meant), every-filter IsField _ fields are.0),
  subst (λ ns. are_ascending ns ≡ true) (sym (map-with (λ (f : List ℕ × Value). f.0) fields (x, v))) (names-with (map (λ (f : List ℕ × Value). f.0) fields) x are.1),
)

all_wishes : (wishes : List (List ℕ × Option Value)) (fields : List (List ℕ × Value)) → AllByRecursion IsWish wishes → AreInOrder fields → AreInOrder (after_wishes fields wishes)
all_wishes [] fields all are = are
all_wishes (w ∷ wishes) fields all are = all_wishes wishes (after_wish fields w) all.1 (one_wish fields w.0 w.1 are all.0.0 all.0.1)

-- fields stay fields, where they are not too large
pub fields-form : (wishes : List (List ℕ × Option Value)) (fields : List (List ℕ × Value)) → AllByRecursion IsWish wishes → AreInOrder fields
    → nat_lt most_record_size (sum_by size_of_field (after_wishes fields wishes)) ≡ false → AreFields (after_wishes fields wishes)
fields-form wishes fields all are small =
    let ordered = all_wishes wishes fields all are in
    let size = ltb-false most_record_size (sum_by size_of_field (after_wishes fields wishes)) small in
    (ordered.0, ordered.1, fields_counted (after_wishes fields wishes) (omega (arith, size)))

-- ---- counts

few_step : {X : Type 0} (a b : Bool) (x : X) (xs ys : List X) (n : ℕ) → (a ≡ true → b ≡ false) → length xs + length ys ≤ n → length (cond a (x ∷ xs) xs) + length (cond b (x ∷ ys) ys) ≤ suc n
few_step true true x xs ys n apart few = absurd (both_ways true (apart refl) refl)
few_step true false x xs ys n apart few = omega (arith, few)
few_step false true x xs ys n apart few = omega (arith, few)
few_step false false x xs ys n apart few = omega (arith, few)

-- of two tests that nothing passes both
few-filtered : {X : Type 0} (p t : X → Bool) → ((x : X) → p x ≡ true → t x ≡ false) → (xs : List X) → length (filter p xs) + length (filter t xs) ≤ length xs
few-filtered p t apart [] = omega arith
few-filtered p t apart (x ∷ xs) = few_step (p x) (t x) x (filter p xs) (filter t xs) (length xs) (apart x) (few-filtered p t apart xs)

pub few_filter : {X : Type 0} (t : X → Bool) (xs : List X) → length (filter t xs) ≤ length xs
few_filter t xs = omega (arith, few-filtered t (λ x. false) (λ x e. refl) xs)

few_joined : {X : Type 0} (xs : List X) (y : X) (ys : List X) → length (xs ++ y ∷ ys) ≡ suc (length xs + length ys)
few_joined [] y ys = omega arith
few_joined (x ∷ xs) y ys = omega (arith, few_joined xs y ys)

few_with : (ps : List Participant) (p : Participant) → length (with_participant ps p) ≤ suc (length ps)
few_with ps p = omega (
  arith,
  few_joined (filter (λ (q : Participant). is_before q.user p.user) ps) p (filter (λ (q : Participant). is_before p.user q.user) ps),
  few-filtered (λ (q : Participant). is_before q.user p.user) (λ q. is_before p.user q.user) (λ q e. before-asym q.user p.user e) ps,
)

few_after : (some ps : List Participant) → length (fold with_participant ps some) ≤ length ps + length some
few_after [] ps = omega arith
few_after (p ∷ some) ps = omega (arith, few_after some (with_participant ps p), few_with ps p)

few_option : {X : Type 0} (o : Option X) (xs : List X) → length (cons_option o xs) ≤ suc (length xs)
few_option None xs = omega arith
few_option (Some x) xs = omega arith

few_mapped : {X Y : Type 0} (f : X → Option Y) (xs : List X) → length (filter_map f xs) ≤ length xs
few_mapped f [] = omega arith
few_mapped f (x ∷ xs) = omega (arith, few_option (f x) (filter_map f xs), few_mapped f xs)

-- ---- participants

-- each has its form, and their names ascend
abbrev AreListed : List Participant → Type 0
AreListed ps = AllByRecursion IsParticipant ps × (are_ascending (map (λ (p : Participant). p.user) ps) ≡ true)

with_form : (ps : List Participant) (p : Participant) → AreListed ps → IsParticipant p → AreListed (with_participant ps p)
with_form ps p are one = (
  every-append IsParticipant _ _ (every-filter IsParticipant _ ps are.0) (one, every-filter IsParticipant _ ps are.0),
  subst (λ ns. are_ascending ns ≡ true) (sym (map-with (λ (r : Participant). r.user) ps p)) (names-with (map (λ (r : Participant). r.user) ps) p.user are.1),
)

all_with : (some ps : List Participant) → AllByRecursion IsParticipant some → AreListed ps → AreListed (fold with_participant ps some)
all_with [] ps all are = are
all_with (p ∷ some) ps all are = all_with some (with_participant ps p) all.1 (with_form ps p are all.0)

member_kept : (permission : Permission) (accepted : Bool) → may_have Member permission ≡ true → is_kept Member permission accepted ≡ true
member_kept Nothing accepted e = absurd (both_ways false refl e)
member_kept ReadOnly accepted e = refl
member_kept ReadWrite accepted e = refl

public_kept : (b : Bool) (p : Participant) (some : List Participant) → IsParticipant p → AllByRecursion IsParticipant some → AllByRecursion IsParticipant (cons_option (if b then Some p else None) some)
public_kept true p some one all = (one, all)
public_kept false p some one all = all

kept_form : (kind : PartKind) (w : Wanted) (o : Option Participant) (some : List Participant) → IsName w.user → may_have kind w.permission ≡ true → ((p : Participant) → o ≡ Some p → IsParticipant p)
    → AllByRecursion IsParticipant some → AllByRecursion IsParticipant (cons_option (kept_as kind w o) some)
kept_form Member w o some name may old all = ((name, member_kept w.permission (is_some_and (λ (p : Participant). p.accepted) o) may), all)
kept_form Public w None some name may old all = all
kept_form Public w (Some p) some name may old all = public_kept (is_public p.kind) p some (old p refl) all

all_kept : (old : List Participant) (wanted : List Wanted) → AllByRecursion IsParticipant old → AllByRecursion IsWanted wanted
    → AllByRecursion IsParticipant (filter_map (λ (w : Wanted). kept_as w.kind w (participant_at old w.user)) wanted)
all_kept old [] are all = tt
all_kept old (w ∷ wanted) are all = kept_form w.kind w (participant_at old w.user) (filter_map (λ (v : Wanted). kept_as v.kind v (participant_at old v.user)) wanted) all.0.0 all.0.1
    (λ p e. every-found IsParticipant (λ (r : Participant). same w.user r.user) old p are e) (all_kept old wanted are all.1)

-- a list that isn't refused
abbrev pub IsTaken : List ℕ → Draft → Type 0
IsTaken owner d = is_some_and (is_refused_list owner) d.participants ≡ false

list_form : (owner : List ℕ) (old : List Participant) (o : Option (List Wanted)) → is_some_and (is_refused_list owner) o ≡ false → AreParticipants old → IfSome o (AllByRecursion IsWanted)
    → AreParticipants (option_map_or (rewritten old) o old)
list_form owner old None taken are all = are
list_form owner old (Some wanted) taken are all =
    let some = filter_map (λ (w : Wanted). kept_as w.kind w (participant_at old w.user)) wanted in
    let listed = all_with some [] (all_kept old wanted are.0 all) (tt, refl) in
    let few = ltb-false most_participants (length wanted) (or_parts (nat_lt most_participants (length wanted)) _ (sym (refused-is owner wanted) ∙ taken)).0 in
    let count = lt-ltb (length (rewritten old wanted)) (2 ^ 16)
    (omega (arith, few, few_after some [], few_mapped (λ (w : Wanted). kept_as w.kind w (participant_at old w.user)) wanted)) in
    (listed.0, listed.1, count)

-- ---- shares

pub share-form : (owner : List ℕ) (s : ShareOf) (d : Draft) → IsTaken owner d → IsShare s → IfSome d.participants (AllByRecursion IsWanted) → IsShare (share_after s d)
share-form owner s d taken is all = record { root = is.root; guid = is.guid; participants = list_form owner s.participants d.participants taken is.participants all }

pub first-form : (root guid : List ℕ) → IsName root → IsGuid guid → IsShare (first_share root guid)
first-form root guid name is = record { root = name; guid = is; participants = (tt, refl, refl) }

pub body-form : (owner rtype : List ℕ) (b : Body) (d : Draft) → IsTaken owner d → IsBodyOf rtype b → IfSome d.participants (AllByRecursion IsWanted) → IsBodyOf rtype (body_after b d)
body-form owner rtype Plain d taken is all = is
body-form owner rtype (Share s) d taken is all = (is.0, share-form owner s d taken is.1 all)

-- without a user it is a share still
pub body-left : (rtype : List ℕ) (b : Body) (u : List ℕ) → IsBodyOf rtype b → IsBodyOf rtype (body_without u b)
body-left rtype Plain u is = is
body-left rtype (Share s) u is = (
  is.0,
  record {
    root = is.1.root;
    guid = is.1.guid;
    participants = (
      every-filter IsParticipant _ s.participants is.1.participants.0,
      subst (λ ns. are_ascending ns ≡ true) (sym (map-filter (λ (p : Participant). p.user) (λ y. not (same u y)) s.participants))
          (names-some (λ y. not (same u y)) (map (λ (p : Participant). p.user) s.participants) is.1.participants.1),
      lt-ltb _ _ (omega (arith, ltb-true (length s.participants) (2 ^ 16) is.1.participants.2, few_filter (λ (p : Participant). not (same u p.user)) s.participants)),
    );
  },
)
