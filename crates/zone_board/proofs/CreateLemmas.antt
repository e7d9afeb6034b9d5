-- What the creation of a record comes to.
use Rattle.std.proofs.Common.{◌≡◌, ℕ, suc, List, [], ◌∷◌, Bool, true, false, ◌||◌, refl, sym, ap, ◌∙◌, subst, arith, Some, None, Option}
use Rattle.std.specs.Prelude.{is_none, is_some, if◌then◌else◌}
use Rattle.std.specs.Option.{option_map_or}
use Rattle.std.specs.List.{AllByRecursion}
use Rattle.std.proofs.lemmas.Bool.{both_ways}
use Rattle.std.proofs.lemmas.Option.{same_Some}
use Rattle.ck_base.specs.Names.{IsName}
use Rattle.record_model.specs.declared.records.Record.{Record}
use Rattle.record_model.specs.DraftForms.{IsMeantDraft}
use Rattle.record_model.specs.RecordForms.{IsStored}
use Rattle.zone_model.specs.declared.operations.Op.{Op}
use Rattle.zone_model.specs.declared.commits.Commit.{Commit}
use Rattle.zone_model.specs.declared.outcomes.OpFault.{OpFault}
use Rattle.zone_model.specs.declared.outcomes.OpFault.TheVariants.{Exists, BadRequest}
use Rattle.zone_model.specs.declared.outcomes.Outcome.TheVariants.{Put, Refused}
use Rattle.zone_model.specs.Records.{is_there}
use Rattle.zone_model.specs.Zones.{zone_at, puts_at}
use Rattle.plain_creates.specs.PlainCreates.{IsOwner, is_plain_create, is_too_large, created_record, refusal_of_create}
use Rattle.plain_creates.specs.OnePuts.{IsOnePut, last_put}
use Rattle.zone_laws.proofs.PlainLaws.{creates_done, creates_in_form}
use Rattle.zone_laws.proofs.OnePutLaws.{puts_found}
use Rattle.zone_board.specs.declared.create.Asking.{Asking}
use Rattle.zone_board.specs.Kept.{IsCreation}
use Rattle.zone_board.specs.Creations.{first_record}
use Rattle.zone_board.specs.Askings.{with_name, caller_of, commit_by, one_done, IsOfOwner}
use Rattle.zone_board.proofs.SightLemmas.{default_there}
use Rattle.zone_model.specs.Requests.{NamedOp}

pub owner_of : (asking : Asking) → IsOfOwner asking → IsOwner (caller_of asking)
owner_of asking own = record { user = own.by_owner; scope = refl }

not_some : (b : Bool) (r row : Record) → (if b then None else Some r) ≡ Some row → b ≡ false
not_some true r row e = absurd (both_ways false refl (ap (λ (o : Option Record). option_map_or (λ _. true) o false) e))
not_some false r row e = refl

is_bad : (b : Bool) (r : Record) → None ≡ (if b then None else Some r) → b ≡ true
is_bad true r e = refl
is_bad false r e = absurd (both_ways true (ap (λ (o : Option Record). option_map_or (λ _. true) o false) (sym e)) refl)

none_put : (o : Option Record) → is_some o ≡ false → o ≡ None
none_put None e = refl
none_put (Some r) e = absurd (both_ways true e refl)

module _ (asking : Asking) (log : List Commit) (op : Op) (name : List ℕ) (own : IsOfOwner asking) (ones : AllByRecursion IsOnePut log) (plain : is_plain_create op ≡ true) where
  abbrev its_op : NamedOp
  its_op = with_name op name

  abbrev its_rows : List Record
  its_rows = (zone_at log asking.key.now).rows

  abbrev is_wrong : Bool
  is_wrong = is_none op.draft.rtype || is_too_large op.draft

  abbrev its_record : Record
  its_record = created_record asking.user.now asking.moment (λ _. 0) name op.draft

  there : (zone_at log asking.key.now).there ≡ true
  there = default_there log asking.key.now own.in_default ones

  refused_with : (fault : OpFault) → refusal_of_create its_rows name op.draft ≡ Some fault → one_done asking log its_op ≡ record { outcomes = Refused fault None ∷ []; commits = [] }
  unfolding one_done
  refused_with fault e = creates_done.refused (caller_of asking) asking.moment log its_op fault (owner_of asking own) there plain e

  pub refused_taken : is_there its_rows name ≡ true → one_done asking log its_op ≡ record { outcomes = Refused Exists None ∷ []; commits = [] }
  refused_taken taken = refused_with Exists (ap (λ b. if b then Some Exists else (if is_wrong then Some BadRequest else None)) taken)

  module _ (free : is_there its_rows name ≡ false) where
    refusal_by : (wrong : Bool) → is_wrong ≡ wrong → refusal_of_create its_rows name op.draft ≡ (if wrong then Some BadRequest else None)
    refusal_by wrong e i = if free i then Some Exists else (if e i then Some BadRequest else None)

    pub refused_wrong : None ≡ first_record asking.user.now asking.moment name op.draft → one_done asking log its_op ≡ record { outcomes = Refused BadRequest None ∷ []; commits = [] }
    refused_wrong none = refused_with BadRequest (refusal_by true (is_bad is_wrong its_record none))

    never_put : puts_at log asking.key.now name ≡ 0
    never_put =
        let none : last_put asking.key.now name log ≡ None = none_put (last_put asking.key.now name log) (sym (puts_found.there log asking.key.now name ones) ∙ free) in
        puts_found.counted log asking.key.now name ones ∙ puts_found.never log asking.key.now name none

    module _ (row : Record) (is : Some row ≡ first_record asking.user.now asking.moment name op.draft) where
      right : is_wrong ≡ false
      right = not_some is_wrong its_record row (sym is)

      row_is : row ≡ its_record
      row_is = same_Some row its_record (is ∙ ap (λ b. if b then None else Some its_record) right)

      pub put_done : one_done asking log its_op ≡ record { outcomes = Put row ∷ []; commits = commit_by asking row ∷ [] }
      unfolding one_done
      put_done =
          creates_done.made (caller_of asking) asking.moment log its_op (owner_of asking own) there plain (refusal_by false right)
          ∙ ap (λ n.
          let r : Record = record its_record { tag = suc n } in
          record { outcomes = Put r ∷ []; commits = commit_by asking r ∷ [] }) never_put
          ∙ ap (λ r. record { outcomes = Put r ∷ []; commits = commit_by asking r ∷ [] }) (sym row_is)

      stored : IsName name → IsMeantDraft op.draft → IsStored row
      stored named meant =
          subst IsStored (sym row_is)
          (creates_in_form.kept asking.user.now asking.moment its_rows (λ _. 0) its_op plain (refusal_by false right) named meant (subst IsName (sym own.by_owner) own.named.0) own.in_time (omega arith))

      pub creation : IsName name → IsMeantDraft op.draft → IsCreation asking.key.now (commit_by asking row)
      creation named meant = record {
        form = creates_in_form.formed asking.key.now asking.user.now asking.moment row own.named (subst IsName (sym own.by_owner) own.named.0) own.in_time (stored named meant);
        one = refl;
        zone = refl;
      }
