-- Records that compare alike are the same, and each compares alike with itself.
use Rattle.std.proofs.Common.{◌≡◌, ℕ, List, [], ◌∷◌, Bool, true, false, refl, ap, Some, None, Option, Ordering, Less, Equal, Greater}
use Rattle.std.specs.Prelude.{◌==◌}
use Rattle.std.specs.Ordering.{is_eq}
use Rattle.std.specs.Cmp.Lexicographic.{pointwise}
use Rattle.std.proofs.lemmas.Bool.{both_ways, and_parts, and_from, eqb-true, eq-eqb}
use Rattle.record_model.specs.declared.value.Value.{Value}
use Rattle.record_model.specs.ValueOrder.{value_cmp}
use Rattle.record_model.proofs.OrderProofs.{values_linear}
use Rattle.share_records.specs.declared.permission.Permission.{Permission}
use Rattle.share_records.specs.declared.permission.Permission.TheVariants.{Nothing, ReadOnly, ReadWrite}
use Rattle.share_records.specs.declared.participant.PartKind.{PartKind}
use Rattle.share_records.specs.declared.participant.PartKind.TheVariants.{Member, Public}
use Rattle.share_records.specs.declared.participant.Participant.{Participant}
use Rattle.share_records.specs.declared.share.Share.{Share as ShareOf}
use Rattle.record_model.specs.declared.records.Stamp.{Stamp}
use Rattle.record_model.specs.declared.records.Body.{Body}
use Rattle.record_model.specs.declared.records.Body.TheVariants.{Plain, Share}
use Rattle.record_model.specs.declared.records.Record.{Record}
use Rattle.record_model.specs.declared.view.View.{View}
use Rattle.zone_model.specs.Names.{same, same_option}
use Rattle.zone_model.specs.Same.{same_bool, same_value, same_field, same_stamp, same_participant, same_share, same_body, same_record, same_view, same_found}
use Rattle.share_records.specs.Permissions.{same_permission, is_public}
use Rattle.name_rules.proofs.NameLemmas.{same-true, same-refl}

-- ---- alike is the same

pointwise-true : {A : Type 0} (E : A → A → Bool) → ((x y : A) → E x y ≡ true → x ≡ y) → (xs ys : List A) → pointwise E xs ys ≡ true → xs ≡ ys
pointwise-true E exact [] [] e = refl
pointwise-true E exact [] (y ∷ ys) e = absurd (both_ways false refl e)
pointwise-true E exact (x ∷ xs) [] e = absurd (both_ways false refl e)
pointwise-true E exact (x ∷ xs) (y ∷ ys) e =
    let h = and_parts (E x y) (pointwise E xs ys) e in
    let head = exact x y h.0 in
    let tail = pointwise-true E exact xs ys h.1 in
    λ i. head i ∷ tail i

pub option-true : (a b : Option (List ℕ)) → same_option a b ≡ true → a ≡ b
option-true None None e = refl
option-true None (Some b) e = absurd (both_ways false refl e)
option-true (Some a) None e = absurd (both_ways false refl e)
option-true (Some a) (Some b) e = ap Some (same-true a b e)

permission-true : (a b : Permission) → same_permission a b ≡ true → a ≡ b
permission-true Nothing Nothing e = refl
permission-true Nothing ReadOnly e = absurd (both_ways false refl e)
permission-true Nothing ReadWrite e = absurd (both_ways false refl e)
permission-true ReadOnly Nothing e = absurd (both_ways false refl e)
permission-true ReadOnly ReadOnly e = refl
permission-true ReadOnly ReadWrite e = absurd (both_ways false refl e)
permission-true ReadWrite Nothing e = absurd (both_ways false refl e)
permission-true ReadWrite ReadOnly e = absurd (both_ways false refl e)
permission-true ReadWrite ReadWrite e = refl

bool-true : (a b : Bool) → same_bool a b ≡ true → a ≡ b
bool-true true true e = refl
bool-true true false e = absurd (both_ways false refl e)
bool-true false true e = absurd (both_ways false refl e)
bool-true false false e = refl

kind-true : (a b : PartKind) → same_bool (is_public a) (is_public b) ≡ true → a ≡ b
kind-true Member Member e = refl
kind-true Member Public e = absurd (both_ways false refl e)
kind-true Public Member e = absurd (both_ways false refl e)
kind-true Public Public e = refl

equal : (o : Ordering) → is_eq o ≡ true → o ≡ Equal
equal Less e = absurd (both_ways false refl e)
equal Equal e = refl
equal Greater e = absurd (both_ways false refl e)

value-true : (a b : Value) → same_value a b ≡ true → a ≡ b
value-true a b e = values_linear.antisymmetric a b (equal (value_cmp a b) e)

field-true : (a b : List ℕ × Value) → same_field a b ≡ true → a ≡ b
field-true a b e =
    let h = and_parts (same a.0 b.0) (same_value a.1 b.1) e in
    let name = same-true a.0 b.0 h.0 in
    let value = value-true a.1 b.1 h.1 in
    λ i. (name i, value i)

stamp-true : (a b : Stamp) → same_stamp a b ≡ true → a ≡ b
stamp-true a b e =
    let h = and_parts (a.moment == b.moment) (same a.user b.user) e in
    let moment = eqb-true a.moment b.moment h.0 in
    let user = same-true a.user b.user h.1 in
    λ i. record { moment = moment i; user = user i }

participant-true : (a b : Participant) → same_participant a b ≡ true → a ≡ b
participant-true a b e =
    let h = and_parts (same a.user b.user) _ e in
    let g = and_parts (same_bool (is_public a.kind) (is_public b.kind)) _ h.1 in
    let f = and_parts (same_permission a.permission b.permission) (same_bool a.accepted b.accepted) g.1 in
    let user = same-true a.user b.user h.0 in
    let kind = kind-true a.kind b.kind g.0 in
    let permission = permission-true a.permission b.permission f.0 in
    let accepted = bool-true a.accepted b.accepted f.1 in
    λ i. record { user = user i; kind = kind i; permission = permission i; accepted = accepted i }

share-true : (a b : ShareOf) → same_share a b ≡ true → a ≡ b
share-true a b e =
    let h = and_parts (same a.root b.root) _ e in
    let g = and_parts (same a.guid b.guid) _ h.1 in
    let f = and_parts (same_permission a.public b.public) (pointwise same_participant a.participants b.participants) g.1 in
    let root = same-true a.root b.root h.0 in
    let guid = same-true a.guid b.guid g.0 in
    let public = permission-true a.public b.public f.0 in
    let participants = pointwise-true same_participant participant-true a.participants b.participants f.1 in
    λ i. record { root = root i; guid = guid i; public = public i; participants = participants i }

body-true : (a b : Body) → same_body a b ≡ true → a ≡ b
body-true Plain Plain e = refl
body-true Plain (Share b) e = absurd (both_ways false refl e)
body-true (Share a) Plain e = absurd (both_ways false refl e)
body-true (Share a) (Share b) e = ap Share (share-true a b e)

pub record-true : (a b : Record) → same_record a b ≡ true → a ≡ b
record-true a b e =
    let h1 = and_parts (same a.name b.name) _ e in
    let h2 = and_parts (same a.rtype b.rtype) _ h1.1 in
    let h3 = and_parts (a.tag == b.tag) _ h2.1 in
    let h4 = and_parts (same_option a.parent b.parent) _ h3.1 in
    let h5 = and_parts (same_option a.share b.share) _ h4.1 in
    let h6 = and_parts (pointwise same_field a.fields b.fields) _ h5.1 in
    let h7 = and_parts (same_stamp a.created b.created) _ h6.1 in
    let h8 = and_parts (same_stamp a.modified b.modified) _ h7.1 in
    let name = same-true a.name b.name h1.0 in
    let rtype = same-true a.rtype b.rtype h2.0 in
    let tag = eqb-true a.tag b.tag h3.0 in
    let parent = option-true a.parent b.parent h4.0 in
    let share = option-true a.share b.share h5.0 in
    let fields = pointwise-true same_field field-true a.fields b.fields h6.0 in
    let created = stamp-true a.created b.created h7.0 in
    let modified = stamp-true a.modified b.modified h8.0 in
    let body = body-true a.body b.body h8.1 in
    λ i. record { name = name i; rtype = rtype i; tag = tag i; parent = parent i; share = share i; fields = fields i; created = created i; modified = modified i; body = body i }

pub found-true : (a b : Option Record) → same_found a b ≡ true → a ≡ b
found-true None None e = refl
found-true None (Some b) e = absurd (both_ways false refl e)
found-true (Some a) None e = absurd (both_ways false refl e)
found-true (Some a) (Some b) e = ap Some (record-true a b e)

pub view-true : (v w : View) → same_view v w ≡ true → v ≡ w
view-true v w e =
    let h = and_parts (same_bool v.here w.here) (pointwise same_record v.rows w.rows) e in
    let here = bool-true v.here w.here h.0 in
    let rows = pointwise-true same_record record-true v.rows w.rows h.1 in
    λ i. record { here = here i; rows = rows i }

-- ---- each is alike with itself

pointwise-refl : {A : Type 0} (E : A → A → Bool) → ((x : A) → E x x ≡ true) → (xs : List A) → pointwise E xs xs ≡ true
pointwise-refl E alike [] = refl
pointwise-refl E alike (x ∷ xs) = and_from (E x x) _ (alike x) (pointwise-refl E alike xs)

pub option-refl : (a : Option (List ℕ)) → same_option a a ≡ true
option-refl None = refl
option-refl (Some x) = same-refl x

permission-refl : (a : Permission) → same_permission a a ≡ true
permission-refl Nothing = refl
permission-refl ReadOnly = refl
permission-refl ReadWrite = refl

bool-refl : (a : Bool) → same_bool a a ≡ true
bool-refl true = refl
bool-refl false = refl

field-refl : (a : List ℕ × Value) → same_field a a ≡ true
field-refl a = and_from (same a.0 a.0) _ (same-refl a.0) (ap is_eq (values_linear.reflexive a.1))

stamp-refl : (a : Stamp) → same_stamp a a ≡ true
stamp-refl a = and_from (a.moment == a.moment) _ (eq-eqb a.moment a.moment refl) (same-refl a.user)

participant-refl : (a : Participant) → same_participant a a ≡ true
participant-refl a = and_from (same a.user a.user) _ (same-refl a.user)
    (and_from (same_bool (is_public a.kind) (is_public a.kind)) _ (bool-refl (is_public a.kind))
    (and_from (same_permission a.permission a.permission) _ (permission-refl a.permission) (bool-refl a.accepted)))

body-refl : (a : Body) → same_body a a ≡ true
body-refl Plain = refl
body-refl (Share s) = and_from (same s.root s.root) _ (same-refl s.root) (and_from (same s.guid s.guid) _ (same-refl s.guid)
    (and_from (same_permission s.public s.public) _ (permission-refl s.public) (pointwise-refl same_participant participant-refl s.participants)))

pub record-refl : (a : Record) → same_record a a ≡ true
record-refl a =
    and_from (same a.name a.name) _ (same-refl a.name)
    (and_from (same a.rtype a.rtype) _ (same-refl a.rtype)
    (and_from (a.tag == a.tag) _ (eq-eqb a.tag a.tag refl)
    (and_from (same_option a.parent a.parent) _ (option-refl a.parent)
    (and_from (same_option a.share a.share) _ (option-refl a.share)
    (and_from (pointwise same_field a.fields a.fields) _ (pointwise-refl same_field field-refl a.fields)
    (and_from (same_stamp a.created a.created) _ (stamp-refl a.created)
    (and_from (same_stamp a.modified a.modified) _ (stamp-refl a.modified) (body-refl a.body))))))))

pub view-refl : (v : View) → same_view v v ≡ true
view-refl v = and_from (same_bool v.here v.here) _ (bool-refl v.here) (pointwise-refl same_record record-refl v.rows)

pub found-refl : (a : Option Record) → same_found a a ≡ true
found-refl None = refl
found-refl (Some a) = record-refl a
