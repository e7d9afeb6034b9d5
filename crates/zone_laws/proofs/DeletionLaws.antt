-- What outcomes show of deletions.
use Rattle.std.proofs.Common.{◌≡◌, ℕ, List, [], ◌∷◌, Bool, true, false, cond, not, ◌||◌, refl, sym, ap, ◌∙◌, subst, Some, None, Option, map}
use Rattle.std.specs.Prelude.{find, filter, zip, is_some, if◌then◌else◌}
use Rattle.std.specs.Option.{option_map_or, option_map}
use Rattle.std.specs.List.{list_any, list_all, AllByRecursion}
use Rattle.std.proofs.lemmas.Bool.{both_ways, and_from, or_left, or_right}
use Rattle.std.proofs.lemmas.Option.{same_Some}
use Rattle.name_rules.specs.Options.{is_some_and, or_else}
use Rattle.name_rules.proofs.NameLemmas.{same-true, same-refl, kept}
use Rattle.share_records.specs.declared.share.Share.{Share as ShareOf}
use Rattle.share_records.specs.ShareLists.{participant_at, share_without}
use Rattle.record_model.specs.declared.records.Body.{Body}
use Rattle.record_model.specs.declared.records.Body.TheVariants.{Plain, Share}
use Rattle.record_model.specs.declared.records.Record.{Record}
use Rattle.record_model.specs.RecordForms.{share_in}
use Rattle.zone_model.specs.declared.operations.Past.{Past}
use Rattle.zone_model.specs.declared.outcomes.OpFault.{OpFault}
use Rattle.zone_model.specs.declared.outcomes.Outcome.TheVariants.{Put as Answered, Deleted}
use Rattle.zone_model.specs.declared.commits.Write.{Write}
use Rattle.zone_model.specs.declared.commits.Write.TheVariants.{Put, Remove, PutRemove}
use Rattle.zone_model.specs.declared.commits.Commit.{Commit}
use Rattle.zone_model.specs.Names.{same, is_in, is_private, is_shared, has_twice}
use Rattle.zone_model.specs.Records.{record_at, is_there, is_share, share_of}
use Rattle.zone_model.specs.Zones.{zone_at, written_name}
use Rattle.zone_model.specs.Views.{view_of}
use Rattle.zone_model.specs.Past.{name_history}
use Rattle.zone_model.specs.Requests.{Caller, NamedOp, is_deletion, puts_in, roots_in, names_deleted}
use Rattle.zone_model.specs.Grounds.{grounds_of, is_taken_by_deletion}
use Rattle.zone_model.specs.Judging.{faults_of, has_fault}
use Rattle.zone_model.specs.Effect.{Request, body_without, working, is_put, is_left, after_leaving, after_puts, removed, stamped, is_written, final, write_of, writes, effect}
use Rattle.zone_model.specs.Modifying.{done, outcome_of, request_at, judgement_at, modified_as_one}
use Rattle.zone_laws.specs.LawfulTests.{are_lawful}
use Rattle.zone_laws.specs.Answering.{writes_made, IsGone, IsShownGone, DeletionsAreWritten}
use Rattle.zone_laws.proofs.RecordLaws.{none-some, found-name}
use Rattle.zone_laws.proofs.EffectLaws.{write_by}
use Rattle.zone_laws.proofs.AfterLaws.{write_named, found-after-puts, left_same}
use Rattle.zone_laws.proofs.PeopleLaws.{gone}
use Rattle.zone_laws.proofs.CoreLaws.{share-core}
use Rattle.zone_laws.proofs.JudgeLaws.{there-found}
use Rattle.zone_laws.proofs.KeptLaws.{IsFine, found_put, old-after}
use Rattle.zone_laws.proofs.ParentLaws.{after_in_order, taken-gone}
use Rattle.zone_laws.proofs.AnswerLaws.{all-refused}
use Rattle.zone_laws.proofs.LawfulLaws.{is_fine}
use Rattle.zone_laws.proofs.WrittenLaws.{found_write, made_writes}
use Rattle.zone_laws.proofs.MadeLaws.{seen_there, private_by, put_stays}
use Rattle.zone_laws.proofs.TestLaws.{in_turn_back}

-- the share that a record is, in which the user is no more
abbrev HasNot : List ℕ → Record → Type 0
HasNot u r = (s : ShareOf) × (share_of r ≡ Some s) × (participant_at s.participants u ≡ None)

left_body : (u : List ℕ) (b : Body) (r : Record) → r.body ≡ b → is_share (record r { body = body_without u r.body }) ≡ true → HasNot u (record r { body = body_without u r.body })
left_body u Plain r is e = absurd (both_ways false refl (ap (λ c. is_some (share_in (body_without u c))) (sym is) ∙ e))
left_body u (Share s) r is e = (share_without u s, ap (λ c. share_in (body_without u c)) is, gone u s.participants)

module _ (q : Request) (pasts : List Past) (fine : IsFine q pasts) where
  left_row : (o : Option Record) (row : Record) → option_map (after_leaving q) o ≡ Some row → is_left q row ≡ true → is_share row ≡ true → HasNot q.caller.user row
  left_row None row e left share = absurd (none-some None row refl e)
  left_row (Some z) row e left share =
      let one : after_leaving q z ≡ row = same_Some (after_leaving q z) row e in
      let was : is_left q z ≡ true = sym (left_same q z) ∙ ap (is_left q) one ∙ left in
      let is : record z { body = body_without q.caller.user z.body } ≡ row =
      ap (λ b. if b then record z { body = body_without q.caller.user z.body } else z) (sym was) ∙ one in
      subst (HasNot q.caller.user) is (left_body q.caller.user z.body z refl (ap is_share is ∙ share))

  abbrev its_writes : List Write
  its_writes = writes q (removed q)

  abbrev find_of : List ℕ → Option Write
  find_of x = find (λ w. same x (written_name w)) its_writes

  removed_by : (written : Bool) (x : List ℕ) (a : Record) → find_of x ≡ write_by q (removed q) true written a → IsGone q.caller its_writes x
  removed_by true x a e = record { write = PutRemove a.name; found = e; is = tt }
  removed_by false x a e = record { write = Remove a.name; found = e; is = tt }

  left_by : (goes : Bool) (x : List ℕ) (a : Record) → find_of x ≡ write_by q (removed q) goes true a → is_shared q.caller.scope ≡ true → HasNot q.caller.user a → IsGone q.caller its_writes x
  left_by true x a e shared has = record { write = PutRemove a.name; found = e; is = tt }
  left_by false x a e shared has = record { write = Put (final q (removed q) a); found = e; is = (shared, has) }

  found_of : (x : List ℕ) (a : Record) → record_at (after_puts q) x ≡ Some a → find_of x ≡ write_of q (removed q) a
  found_of x a at = found_write (write_of q (removed q)) (write_named q (removed q)) (after_puts q) x a (after_in_order q pasts fine) at

  deleted_by : (b : Bool) (x : List ℕ) (v : Record) → record_at q.seen x ≡ Some v → is_in (names_deleted q.ops) x ≡ true → is_taken_by_deletion q.caller q.seen x ≡ b → IsGone q.caller its_writes x
  deleted_by true x v seen deleted taken =
      let old = old-after q pasts fine x v (fine.part.part x v seen) in
      let name : x ≡ old.row.name = same-true x old.row.name (found-name (after_puts q) x old.row old.at) in
      let goes : is_in (removed q) old.row.name ≡ true = subst (λ y. is_in (removed q) y ≡ true) name
      (taken-gone q pasts fine x (kept (is_taken_by_deletion q.caller q.seen) (names_deleted q.ops) x taken deleted)) in
      removed_by (is_written q (removed q) old.row) x old.row
      (found_of x old.row old.at ∙ ap (λ b. write_by q (removed q) b (is_written q (removed q) old.row) old.row) goes)
  deleted_by false x v seen deleted taken =
      let old = old-after q pasts fine x v (fine.part.part x v seen) in
      let name : x ≡ old.row.name = same-true x old.row.name (found-name (after_puts q) x old.row old.at) in
      let kind = private_by (is_private q.caller.scope) (is_share v) (sym (ap (is_some_and (λ (r : Record). is_private q.caller.scope || not (is_share r))) seen) ∙ taken) in
      let share : is_share old.row ≡ true = share-core old.row ∙ ap is_some old.root ∙ sym (share-core v) ∙ kind.1 in
      let there : is_there q.seen old.row.name ≡ true = subst (λ y. is_there q.seen y ≡ true) name (there-found q.seen x ∙ ap is_some seen) in
      let left : is_left q old.row ≡ true = and_from (is_shared q.caller.scope) _ kind.0 (and_from (is_in (names_deleted q.ops) old.row.name) _ (subst (λ y. is_in (names_deleted q.ops) y ≡ true) name deleted)
      (and_from (is_share old.row) _ share there)) in
      let written : is_written q (removed q) old.row ≡ true = or_right (is_put q old.row.name) _ (or_left (is_left q old.row) _ left) in
      left_by (is_in (removed q) old.row.name) x old.row
      (found_of x old.row old.at ∙ ap (λ b. write_by q (removed q) (is_in (removed q) old.row.name) b old.row) written)
      kind.0
      (left_row (if is_put q x then or_else (record_at (working q) x) (record_at q.rows x) else record_at q.rows x) old.row
      (sym (found-after-puts q fine.seen_in_order x) ∙ old.at) left share)

  deleted_gone : (x : List ℕ) → is_in (names_deleted q.ops) x ≡ true → is_there q.seen x ≡ true → IsGone q.caller its_writes x
  deleted_gone x deleted there =
      let v = seen_there q.seen x (record_at q.seen x) refl there in
      deleted_by (is_taken_by_deletion q.caller q.seen x) x v.0 v.1 deleted refl

module _ (caller : Caller) (moment : ℕ) (log : List Commit) (ops : List NamedOp)
    (lawful : are_lawful [] log ≡ true) (there : (zone_at log caller.key).there ≡ true) (roots : has_twice (roots_in ops) ≡ false) where
  abbrev its_request : Request
  its_request = request_at caller moment log ops

  abbrev offers : List NamedOp → List ℕ → Bool
  offers ps x = list_any (λ (t : NamedOp). same x t.name) ps

  abbrev deletes : List NamedOp → List ℕ → Bool
  deletes some x = is_in (names_deleted some) x

  module _ (judged : has_fault (judgement_at caller moment log ops) ≡ false) where
    fine : IsFine its_request (name_history log caller.key ops)
    fine = is_fine caller moment log ops lawful there roots judged

    abbrev IsTold : NamedOp → Type 0
    IsTold op = IsShownGone caller its_request.seen (writes its_request (removed its_request)) (done its_request op)

    told : (d : Bool) (op : NamedOp) → (d ≡ false → offers (puts_in ops) op.name ≡ true) → (d ≡ true → deletes ops op.name ≡ true)
        → (o : Option Record) → record_at (working its_request) op.name ≡ o
        → IsShownGone caller its_request.seen (writes its_request (removed its_request)) (option_map_or (λ r. Answered (stamped its_request r)) (if d then None else o) (Deleted op.name))
    told true op offered deleted o is = deleted_gone its_request _ fine op.name (deleted refl)
    told false op offered deleted (Some r) is = tt
    told false op offered deleted None is =
        let p = found_put (puts_in ops) op.name (offered refl) in
        absurd (put_stays its_request _ fine op.name p.0 p.1 is)

    told_step : (d : Bool) (op : NamedOp) (some : List NamedOp) → is_deletion op.kind ≡ d
        → ((x : List ℕ) → offers (if not d then op ∷ puts_in some else puts_in some) x ≡ true → offers (puts_in ops) x ≡ true)
        → ((x : List ℕ) → is_in (map (λ (o : NamedOp). o.name) (cond d (op ∷ filter (λ (o : NamedOp). is_deletion o.kind) some) (filter (λ (o : NamedOp). is_deletion o.kind) some))) x ≡ true → deletes ops x ≡ true)
        → (((x : List ℕ) → offers (puts_in some) x ≡ true → offers (puts_in ops) x ≡ true) → ((x : List ℕ) → deletes some x ≡ true → deletes ops x ≡ true) → AllByRecursion IsTold some)
        → AllByRecursion IsTold (op ∷ some)
    told_step true op some is offered deleted rest = (
      told (is_deletion op.kind) op (λ f. absurd (both_ways (is_deletion op.kind) f is)) (λ _. deleted op.name (or_left (same op.name op.name) _ (same-refl op.name)))
          (record_at (working its_request) op.name) refl,
      rest offered (λ x i. deleted x (or_right (same x op.name) _ i)),
    )
    told_step false op some is offered deleted rest = (
      told (is_deletion op.kind) op (λ _. offered op.name (or_left (same op.name op.name) _ (same-refl op.name))) (λ f. absurd (both_ways (is_deletion op.kind) is f))
          (record_at (working its_request) op.name) refl,
      rest (λ x i. offered x (or_right (same x op.name) _ i)) deleted,
    )

    all_told : (some : List NamedOp) → ((x : List ℕ) → offers (puts_in some) x ≡ true → offers (puts_in ops) x ≡ true) → ((x : List ℕ) → deletes some x ≡ true → deletes ops x ≡ true) → AllByRecursion IsTold some
    all_told [] offered deleted = tt
    all_told (op ∷ some) offered deleted = told_step (is_deletion op.kind) op some refl offered deleted (λ within gone. all_told some within gone)

  told_zip : (ws : List Write) (some : List NamedOp) (faults : List (Option OpFault)) → AllByRecursion (λ (op : NamedOp). IsShownGone caller its_request.seen ws (done its_request op)) some
      → AllByRecursion (IsShownGone caller its_request.seen ws) (map (outcome_of its_request) (zip some faults))
  told_zip ws [] faults all = tt
  told_zip ws (op ∷ some) [] all = tt
  told_zip ws (op ∷ some) (None ∷ faults) all = (all.0, told_zip ws some faults all.1)
  told_zip ws (op ∷ some) (Some fault ∷ faults) all = (tt, told_zip ws some faults all.1)

  refused_zip : (ws : List Write) (some : List NamedOp) (faults : List (Option OpFault)) → list_all is_some faults ≡ true → AllByRecursion (IsShownGone caller its_request.seen ws) (map (outcome_of its_request) (zip some faults))
  refused_zip ws [] faults all = tt
  refused_zip ws (op ∷ some) [] all = tt
  refused_zip ws (op ∷ some) (None ∷ faults) all = absurd (both_ways false refl all)
  refused_zip ws (op ∷ some) (Some fault ∷ faults) all = (tt, refused_zip ws some faults all)

  told_at : (b : Bool) → has_fault (judgement_at caller moment log ops) ≡ b
      → AllByRecursion (IsShownGone caller its_request.seen (writes_made (if b then [] else effect its_request))) (modified_as_one caller moment log ops).outcomes
  told_at true judged = refused_zip [] ops (judgement_at caller moment log ops) (all-refused (faults_of (grounds_of caller (name_history log caller.key ops) (view_of log caller.user caller.scope caller.key).rows ops) ops) judged)
  told_at false judged = subst (λ ws. AllByRecursion (IsShownGone caller its_request.seen ws) (modified_as_one caller moment log ops).outcomes) (sym (made_writes its_request (writes its_request (removed its_request))))
      (told_zip (writes its_request (removed its_request)) ops (judgement_at caller moment log ops) (all_told judged ops (λ x i. i) (λ x i. i)))

pub deletions_written : DeletionsAreWritten
deletions_written caller moment log ops lawful there roots = told_at caller moment log ops (in_turn_back [] log lawful) there roots (has_fault (judgement_at caller moment log ops)) refl
