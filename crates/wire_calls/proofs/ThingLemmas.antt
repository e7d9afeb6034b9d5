-- Entries of replies that tell of a thing by its name alone.
use Rattle.std.proofs.Common.{◌≡◌, ◌↔◌, IsTrue, ℕ, Bool, true, false, List, [], Option, None, Some, refl, sym, ap, subst, ◌∙◌, arith}
use Rattle.std.specs.Prelude.{◌≢◌, option_and_then}
use Rattle.serde_json.specs.Data.{Data, null, boolean, number, string, array, object, no_members, member}
use Rattle.field_values.specs.Exact.{IsExact}
use Rattle.field_values.specs.Members.{found, unless_null}
use Rattle.error_replies.specs.declared.errors.ServerError.{ServerError}
use Rattle.error_replies.specs.declared.errors.ServerError.TheVariants.{AccessDenied, AtomicError, AuthenticationFailed, AuthenticationRequired, BadRequest, Conflict, Exists, NotFound, TryAgainLater, ValidatingReferenceError, ZoneNotFound}
use Rattle.error_replies.specs.Errors.{code_of}
use Rattle.wire_calls.specs.declared.thing.Thing.{Thing}
use Rattle.wire_calls.specs.declared.thing.Thing.TheVariants.{Record, Zone, ShortGuid, Subscription}
use Rattle.wire_calls.specs.Found.{error_named, error_in, IsPlain, name_given, IsGoneOf, IsFailedOf}
use Rattle.wire_calls.specs.Things.{name_key, gone_of, failed_of}

-- ---- what is written again

-- the JSON is just what is written for a value, or is written for none
module _ {A : Type 0} (write : A → Data) (Is : A → Type 0) (exact : (x : A) → Is x → IsExact (write x)) (d : Data) (x : A) (w : Data) (writes : w ≡ write x) (same : Bool) (tells : IsExact w → (IsTrue same ↔ (d ≡ w))) where
  pub just : Is x → same ≡ true → write x ≡ d
  just is matches = sym ((tells (subst IsExact (sym writes) (exact x is))).0 matches ∙ writes)

  pub other : same ≡ false → ((y : A) → Is y → write y ≡ d → y ≡ x) → (y : A) → Is y → write y ≡ d → ⊥
  other differs one y is e =
      let again : write y ≡ w = ap write (one y is e) ∙ sym writes in
      let found : same ≡ true = (tells (subst IsExact again (exact y is))).1 (sym e ∙ again) in
      cc (found, differs)

-- ---- the members of entries

-- the name of the first member
abbrev pub first_name : Data → List ℕ
first_name null = []
first_name (boolean b) = []
first_name (number n) = []
first_name (string s) = []
first_name (array ds) = []
first_name (object no_members) = []
first_name (object (member k d ms)) = k

pub error_told : (e : ServerError) → error_named (code_of e) ≡ Some e
error_told AccessDenied = refl
error_told AtomicError = refl
error_told AuthenticationFailed = refl
error_told AuthenticationRequired = refl
error_told BadRequest = refl
error_told Conflict = refl
error_told Exists = refl
error_told NotFound = refl
error_told TryAgainLater = refl
error_told ValidatingReferenceError = refl
error_told ZoneNotFound = refl

name_in_gone : (thing : Thing) (name : Data) → found (name_key thing) (gone_of thing name) ≡ unless_null name
name_in_gone Record name = refl
name_in_gone Zone name = refl
name_in_gone ShortGuid name = refl
name_in_gone Subscription name = refl

name_in_failed : (thing : Thing) (error : ServerError) (name : Data) → found (name_key thing) (failed_of thing error name) ≡ unless_null name
name_in_failed Record error name = refl
name_in_failed Zone error name = refl
name_in_failed ShortGuid error name = refl
name_in_failed Subscription error name = refl

pub error_in_failed : (thing : Thing) (error : ServerError) (name : Data) → error_in (failed_of thing error name) ≡ Some error
error_in_failed Record error name = error_told error
error_in_failed Zone error name = error_told error
error_in_failed ShortGuid error name = error_told error
error_in_failed Subscription error name = error_told error

gone_exact : (thing : Thing) (name : Data) → IsPlain name → IsExact (gone_of thing name)
gone_exact thing name is = record { whole = rw is.whole refl; shallow = omega (arith, is.shallow) }

failed_exact : (thing : Thing) (error : ServerError) (name : Data) → IsPlain name → IsExact (failed_of thing error name)
failed_exact Record error name is = record { whole = rw is.whole refl; shallow = omega (arith, is.shallow) }
failed_exact Zone error name is = record { whole = rw is.whole refl; shallow = omega (arith, is.shallow) }
failed_exact ShortGuid error name is = record { whole = rw is.whole refl; shallow = omega (arith, is.shallow) }
failed_exact Subscription error name is = record { whole = rw is.whole refl; shallow = omega (arith, is.shallow) }

-- ---- names of one sort

module _ {N : Type 0} (thing : Thing) (name_of : Data → Option N) (Is : N → Type 0) (write : N → Data)
    (told : (n : N) → Is n → name_of (write n) ≡ Some n) (plain : (n : N) → Is n → IsPlain (write n)) where
  pub gone_named : (n : N) → Is n → name_given thing name_of (gone_of thing (write n)) ≡ Some n
  gone_named n is = ap (option_and_then name_of) (name_in_gone thing (write n) ∙ (plain n is).there) ∙ told n is

  pub failed_named : (error : ServerError) (n : N) → Is n → name_given thing name_of (failed_of thing error (write n)) ≡ Some n
  failed_named error n is = ap (option_and_then name_of) (name_in_failed thing error (write n) ∙ (plain n is).there) ∙ told n is

  module _ (d : Data) where
    pub none_gone : name_given thing name_of d ≡ None → (n : N) → IsGoneOf thing Is write d n → ⊥
    none_gone none n is = cc (ap (name_given thing name_of) is.1, gone_named n is.0, none)

    pub none_failed : error_in d ≡ None → (x : ServerError × N) → IsFailedOf thing Is write d x → ⊥
    none_failed none x is = cc (ap error_in is.2, error_in_failed thing x.0 (write x.1), none)

    pub none_in_conflict : (error : ServerError) → error_in d ≡ Some error → error ≡ Conflict → (x : ServerError × N) → IsFailedOf thing Is write d x → ⊥
    none_in_conflict error read conflict x is =
        let same : ◌≡◌ {A = ServerError} x.0 error = cc (ap error_in is.2, error_in_failed thing x.0 (write x.1), read) in
        is.1 (same ∙ conflict)

    pub none_failed_named : name_given thing name_of d ≡ None → (x : ServerError × N) → IsFailedOf thing Is write d x → ⊥
    none_failed_named none x is = cc (ap (name_given thing name_of) is.2, failed_named x.0 x.1 is.0, none)

    pub one_failed : (error : ServerError) (name : N) → error_in d ≡ Some error → name_given thing name_of d ≡ Some name
        → (y : ServerError × N) → Is y.1 → failed_of thing y.0 (write y.1) ≡ d → y ≡ (error, name)
    one_failed error name read_error read_name (error_y, name_y) is e =
        let errors : ◌≡◌ {A = ServerError} error_y error = cc (ap error_in e, error_in_failed thing error_y (write name_y), read_error) in
        let names : ◌≡◌ {A = N} name_y name = cc (ap (name_given thing name_of) e, failed_named error_y name_y is, read_name) in
        rw (errors, names) refl

    module _ (name : N) (written w : Data) (is_written : written ≡ write name) (same : Bool) (tells : IsExact w → (IsTrue same ↔ (d ≡ w))) where
      pub just_gone : w ≡ gone_of thing written → Is name → same ≡ true → IsGoneOf thing Is write d name
      just_gone writes is matches =
          (is, just (λ n. gone_of thing (write n)) Is (λ n is. gone_exact thing (write n) (plain n is)) d name w (writes ∙ ap (gone_of thing) is_written) same tells is matches)

      pub other_gone : w ≡ gone_of thing written → name_given thing name_of d ≡ Some name → same ≡ false → (y : N) → IsGoneOf thing Is write d y → ⊥
      other_gone writes read differs y is =
          other (λ n. gone_of thing (write n)) Is (λ n is. gone_exact thing (write n) (plain n is)) d name w (writes ∙ ap (gone_of thing) is_written) same tells differs
          (λ y is e. cc (ap (name_given thing name_of) e, gone_named y is, read)) y is.0 is.1

      pub just_failed : (error : ServerError) → w ≡ failed_of thing error written → Is name → error ≢ Conflict → same ≡ true → IsFailedOf thing Is write d (error, name)
      just_failed error writes is apart matches = (
        is,
        apart,
        just (λ (x : ServerError × N). failed_of thing x.0 (write x.1)) (λ x. Is x.1) (λ x is. failed_exact thing x.0 (write x.1) (plain x.1 is)) d (error, name) w
            (writes ∙ ap (failed_of thing error) is_written) same tells is matches,
      )

      pub other_failed : (error : ServerError) → w ≡ failed_of thing error written → error_in d ≡ Some error → name_given thing name_of d ≡ Some name → same ≡ false
          → (x : ServerError × N) → IsFailedOf thing Is write d x → ⊥
      other_failed error writes read_error read_name differs x is =
          other (λ (x : ServerError × N). failed_of thing x.0 (write x.1)) (λ x. Is x.1) (λ x is. failed_exact thing x.0 (write x.1) (plain x.1 is)) d (error, name) w
          (writes ∙ ap (failed_of thing error) is_written) same tells differs (one_failed error name read_error read_name) x is.0 is.2
