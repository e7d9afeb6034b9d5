-- Creations of records that stand alone.
use Rattle.std.proofs.Common.{◌≡◌, ℕ, List, [], ◌∷◌, Bool, true, false, cond, not, ◌&&◌, ◌||◌, refl, sym, ap, ◌∙◌, subst, arith, Some, None, Option, map, length, append-nil}
use Rattle.std.specs.Prelude.{filter, filter_map, is_some, is_none, unwrap_or, if◌then◌else◌, option_and_then, nat_lt, fold, zip}
use Rattle.std.specs.Option.{option_map_or}
use Rattle.std.specs.List.{list_any, list_all, cons_option}
use Rattle.std.proofs.Math.Bool.{and-false, or-false}
use Rattle.std.proofs.lemmas.Bool.{not-true, both_ways, and_parts, or_left}
use Rattle.std.proofs.lemmas.Option.{same_Some}
use Rattle.ck_base.specs.declared.key.ZoneKey.{ZoneKey}
use Rattle.ck_base.specs.declared.scope.Scope.TheVariants.{Private}
use Rattle.record_model.specs.declared.value.Action.{Action}
use Rattle.record_model.specs.declared.value.RefTo.{RefTo}
use Rattle.record_model.specs.declared.value.Value.{Value}
use Rattle.record_model.specs.declared.draft.Draft.{Draft}
use Rattle.record_model.specs.declared.draft.ParentWish.{ParentWish}
use Rattle.record_model.specs.declared.records.Body.TheVariants.{Plain, Share}
use Rattle.record_model.specs.declared.records.Record.{Record}
use Rattle.record_model.specs.declared.view.View.{View}
use Rattle.record_model.specs.RecordSizes.{size_of_record}
use Rattle.record_model.specs.RecordForms.{is_share_type}
use Rattle.zone_model.specs.declared.operations.OpKind.{OpKind}
use Rattle.zone_model.specs.declared.operations.OpKind.TheVariants.{Create, Update, ForceUpdate, Replace, ForceReplace, Delete, ForceDelete}
use Rattle.zone_model.specs.declared.operations.Past.{Past}
use Rattle.zone_model.specs.declared.outcomes.OpFault.{OpFault}
use Rattle.zone_model.specs.declared.outcomes.OpFault.TheVariants.{Exists, NotFound, Conflict, BadRequest, AccessDenied, Validating}
use Rattle.zone_model.specs.declared.outcomes.Outcome.TheVariants.{Put as Placed, Deleted, Refused}
use Rattle.zone_model.specs.declared.commits.Write.{Write}
use Rattle.zone_model.specs.declared.commits.Write.TheVariants.{Put}
use Rattle.zone_model.specs.declared.commits.Commit.{Commit}
use Rattle.zone_model.specs.Limits.{most_record_size}
use Rattle.zone_model.specs.Names.{same, is_in, is_default, same_option}
use Rattle.name_rules.specs.Options.{is_some_and, is_none_or}
use Rattle.zone_model.specs.Records.{record_at, is_there, is_share, IsAscending, with_record}
use Rattle.zone_model.specs.References.{references_in, validates}
use Rattle.zone_model.specs.Zones.{zone_at, puts_at}
use Rattle.zone_model.specs.Ancestry.{is_ancestor}
use Rattle.zone_model.specs.Views.{view_of, owner_view, nowhere}
use Rattle.zone_model.specs.Requests.{Caller, NamedOp, new_parent, has_share_type, root_given, root_tag_given, parent_given, is_create}
use Rattle.zone_model.specs.Past.{name_history, is_taken, past_of}
use Rattle.zone_model.specs.Sharing.{share_after}
use Rattle.share_records.specs.ShareLists.{is_refused_list, first_share}
use Rattle.zone_model.specs.Putting.{new_record, written_over, no_stamp}
use Rattle.zone_model.specs.Working.{is_new_share_of, is_share_of, with_puts, with_marks, mark_of, loses_mark}
use Rattle.zone_model.specs.Grounds.{Grounds, grounds_of, is_stale, in_working, first_fault, Check}
use Rattle.zone_model.specs.PutChecks.{is_hidden, has_shared_root, begins, root, root_seen, parent, is_name_taken, is_missing, is_in_conflict, has_bad_form, is_denied, is_dangling, lacks_target, is_plain_in_working, fault_of_put, is_in_view}
use Rattle.zone_model.specs.Judging.{judgement, has_fault, together}
use Rattle.zone_model.specs.Effect.{Request, working, is_put, after_leaving, after_puts, removed, stamp, stamped, is_unmarked, write_as, write_of, writes, effect, commits_with}
use Rattle.zone_model.specs.Modifying.{request_at, judgement_at, done, outcome_of, modified_as_one, modified_apart, shown_with}
use Rattle.plain_creates.specs.PlainCreates.{IsOwner, gives_no_parent, gives_no_share, only_names, has_plain_references, is_plain_draft, drafted_record, created_record, is_too_large, refusal_of_create}
use Rattle.plain_creates.specs.OnePuts.{commit_of_put}
use Rattle.zone_laws.specs.Laws.{OneIsEitherWay, OwnersSeeAll, PlainCreatesAreDone, PlainCreatesAreInForm}
use Rattle.name_rules.proofs.NameLemmas.{same-refl}
use Rattle.zone_laws.proofs.OrderLaws.{ascending-zone}
use Rattle.zone_laws.proofs.RecordLaws.{found-with}
use Rattle.zone_laws.proofs.JudgeLaws.{there-found}
use Rattle.zone_laws.proofs.FormLaws.{fields-form}
use Rattle.zone_laws.proofs.StoredLaws.{some_form}
use Rattle.zone_laws.proofs.AloneLaws.{any_none, some_not, find_none, map_same, filtered_alone, mapped_alone, no_new_share, none_reached}

-- ---- one operation alone

pub one_either_way : OneIsEitherWay
one_either_way caller moment log atomic op = by (atomic && not (is_default caller.key))
  where
    by : (b : Bool) → (if b then modified_as_one caller moment log (op ∷ []) else modified_apart caller moment log (op ∷ [])) ≡ modified_as_one caller moment log (op ∷ [])
    by true = refl
    by false =
        let one = modified_as_one caller moment log (op ∷ []) in
        λ i. record { outcomes = append-nil one.outcomes i; commits = append-nil one.commits i }

-- ---- what a plain draft says

none_is : {X : Type 0} (o : Option X) → is_none o ≡ true → o ≡ None
none_is None e = refl
none_is (Some x) e = absurd (both_ways false refl e)

no_parent : (w : ParentWish) → gives_no_parent w ≡ true → unwrap_or (parent_given w) None ≡ None
no_parent ParentWish.Absent e = refl
no_parent ParentWish.Null e = refl
no_parent (ParentWish.To p) e = absurd (both_ways false refl e)

not_wanted : (a : Action) → only_names a ≡ true → validates a ≡ false
not_wanted Action.Plain e = refl
not_wanted Action.DeleteSelf e = refl
not_wanted Action.Validate e = absurd (both_ways false refl e)

none_lack : (lacks : RefTo → Bool) (qs : List RefTo) → list_all (λ (q : RefTo). only_names q.action) qs ≡ true → list_any (λ (q : RefTo). validates q.action && lacks q) qs ≡ false
none_lack lacks [] all = refl
none_lack lacks (q ∷ qs) all =
    let parts = and_parts (only_names q.action) _ all in
    let off = not_wanted q.action parts.0 in
    let rest = none_lack lacks qs parts.1 in
    λ i. (off i && lacks q) || rest i

module _ (g : Grounds) (p : NamedOp) where
  one_lacks : (o : Option Value) → is_none_or has_plain_references o ≡ true → is_some_and (lacks_target g p) o ≡ false
  one_lacks None e = refl
  one_lacks (Some v) e = none_lack (λ (q : RefTo). not (in_working g q.name)) (references_in v) e

  all_lack : (wishes : List (List ℕ × Option Value)) → list_all (λ (wish : List ℕ × Option Value). is_none_or has_plain_references wish.1) wishes ≡ true
      → list_any (λ (wish : List ℕ × Option Value). is_some_and (lacks_target g p) wish.1) wishes ≡ false
  all_lack [] all = refl
  all_lack (wish ∷ wishes) all =
      let parts = and_parts (is_none_or has_plain_references wish.1) _ all in
      let one = one_lacks wish.1 parts.0 in
      let rest = all_lack wishes parts.1 in
      λ i. one i || rest i

-- what the test of plain drafts says
record IsPlain (d : Draft) : Type 0 where
  pub parent : new_parent d ≡ None
  pub rtype : has_share_type d ≡ false
  pub root : d.for_root ≡ None
  pub public : d.public ≡ None
  pub participants : d.participants ≡ None
  pub fields : list_all (λ (wish : List ℕ × Option Value). is_none_or has_plain_references wish.1) d.fields ≡ true

is_plain : (d : Draft) → is_plain_draft d ≡ true → IsPlain d
is_plain d e =
    let a = and_parts (gives_no_parent d.parent) _ e in
    let b = and_parts (gives_no_share d) _ a.1 in
    let c = and_parts (not (has_share_type d)) _ b.0 in
    let f = and_parts (is_none d.for_root) _ c.1 in
    let h = and_parts (is_none d.public) _ f.1 in
    record {
      parent = no_parent d.parent a.0;
      rtype = not-true (has_share_type d) c.0;
      root = none_is d.for_root f.0;
      public = none_is d.public h.0;
      participants = none_is d.participants h.1;
      fields = b.1;
    }

-- ---- the judgement

abbrev owner : ZoneKey → Caller
owner key = record { user = key.owner; scope = Private; key = key }

abbrev create : List ℕ → List ℕ → Draft → NamedOp
create name guid d = record { kind = Create; draft = d; name = name; guid = guid }

first_passes : (b : Bool) (fault : OpFault) (cs : List Check) → b ≡ true → first_fault ((b, fault) ∷ cs) ≡ Some fault
first_passes b fault cs is = ap (λ c. if c then Some fault else first_fault cs) is

module _ (key : ZoneKey) (pasts : List Past) (rows : List Record) (name guid : List ℕ) (d : Draft) (plain : IsPlain d) where
  abbrev its_grounds : Grounds
  its_grounds = grounds_of (owner key) pasts rows (create name guid d ∷ [])

  abbrev its_put : NamedOp
  its_put = create name guid d

  abbrev later_checks : List Check
  later_checks =
      (is_missing its_grounds its_put, NotFound)
      ∷ (is_in_conflict its_grounds its_put, Conflict)
      ∷ (has_bad_form its_grounds its_put, BadRequest)
      ∷ (is_denied its_grounds its_put, AccessDenied)
      ∷ (is_dangling its_grounds its_put, Validating)
      ∷ []

  fault_taken : is_there rows name ≡ true → fault_of_put its_grounds its_put [] ≡ refusal_of_create rows name d
  fault_taken is = first_passes (is_name_taken its_grounds its_put []) Exists later_checks (or_left (is_in_view its_grounds its_put)
      (is_hidden its_grounds its_put || (is_in [] name || has_shared_root its_grounds its_put)) (ap (λ b. not (not b)) is))
      ∙ sym (ap (λ b. if b then Some Exists else (if is_none d.rtype || is_too_large d then Some BadRequest else None)) is)

  module _ (free : is_there rows name ≡ false) (unused : is_taken pasts name ≡ false) where
    old_off : record_at rows name ≡ None
    old_off = some_not (record_at rows name) (sym (there-found rows name) ∙ free)

    begins_off : begins its_grounds its_put ≡ false
    begins_off i = not (free i) && plain.rtype i

    root_off : root its_grounds its_put ≡ None
    root_off i = if begins_off i then root_given d else None

    root_unseen : root_seen its_grounds its_put ≡ None
    root_unseen i = option_and_then (record_at rows) (root_off i)

    parent_off : parent its_grounds its_put ≡ None
    parent_off i = if not (free i) then plain.parent i else None

    taken_off : is_name_taken its_grounds its_put [] ≡ false
    taken_off i = not (not (free i)) || ((not (free i) && unused i) || (false || is_some_and (λ (r : Record). is_some r.share) (root_unseen i)))

    conflict_off : is_in_conflict its_grounds its_put ≡ false
    conflict_off i = is_some_and (is_stale d.tag) (old_off i) || is_some_and (is_stale (root_tag_given d)) (root_unseen i)

    form_is : has_bad_form its_grounds its_put ≡ (is_none d.rtype || is_too_large d)
    form_is i =
        (not (free i) && is_none d.rtype)
        || (is_some_and (λ (r : Record). is_some_and (λ t. not (same r.rtype t)) d.rtype) (old_off i)
        || (is_some_and (λ (r : Record). is_some_and (λ given. not (same_option r.parent given)) (parent_given d.parent)) (old_off i)
        || ((begins_off i && is_none d.for_root)
        || (((begins_off i || is_some_and is_share (old_off i)) && (is_default key || is_some (parent_off i)))
        || ((not (begins_off i || is_some_and is_share (old_off i)) && (is_some (plain.root i) || (is_some (plain.public i) || is_some (plain.participants i))))
        || (is_some_and (is_refused_list key.owner) (plain.participants i)
        || is_some_and (λ (r : Record). nat_lt most_record_size (size_of_record r)) (written_over its_put (old_off i))))))))

    dangling_off : is_dangling its_grounds its_put ≡ false
    dangling_off i =
        is_some_and (λ q. not (is_plain_in_working its_grounds its_put q) || is_ancestor its_grounds.working name q) (parent_off i)
        || (is_some_and (λ x. not (is_plain_in_working its_grounds its_put x)) (root_off i) || all_lack its_grounds its_put d.fields plain.fields i)

    fault_free : fault_of_put its_grounds its_put [] ≡ refusal_of_create rows name d
    fault_free = (λ i. if taken_off i then Some Exists else (if conflict_off i then Some Conflict else (if form_is i then Some BadRequest else (if dangling_off i then Some Validating else None))))
        ∙ sym (ap (λ b. if b then Some Exists else (if is_none d.rtype || is_too_large d then Some BadRequest else None)) free)

  fault_is : (b : Bool) → is_there rows name ≡ b → is_taken pasts name ≡ b → fault_of_put its_grounds its_put [] ≡ refusal_of_create rows name d
  fault_is true there taken = fault_taken there
  fault_is false free unused = fault_free free unused

-- ---- the effect

module _ (key : ZoneKey) (moment : ℕ) (rows : List Record) (puts : List ℕ → ℕ) (name guid : List ℕ) (d : Draft) (plain : IsPlain d) (ascend : IsAscending rows) (free : is_there rows name ≡ false) where
  abbrev its_request : Request
  its_request = record { caller = owner key; moment = moment; seen = rows; rows = rows; puts = puts; ops = create name guid d ∷ [] }

  abbrev drawn : NamedOp
  drawn = create name guid d

  abbrev all_rows : List Record
  all_rows = with_record rows (drafted_record name d)

  abbrev its_record : Record
  its_record = created_record key.owner moment puts name d

  begun : new_record drawn ≡ drafted_record name d
  begun i = record (drafted_record name d) {
    parent = plain.parent i;
    body = if plain.rtype i then option_map_or (λ root. Share (share_after (first_share root guid) d)) (root_given d) Plain else Plain;
  }

  unfound : record_at rows name ≡ None
  unfound = some_not (record_at rows name) (sym (there-found rows name) ∙ free)

  puts_written : with_puts rows (create name guid d ∷ []) ≡ all_rows
  puts_written = (λ i. fold with_record rows (cons_option (written_over drawn (unfound i)) [])) ∙ ap (with_record rows) begun

  unshared : (x : List ℕ) → list_any (λ (s : Record). is_share_of x s && not (is_there rows s.name)) all_rows ≡ false
  unshared x = no_new_share rows (drafted_record name d) x ascend refl

  unlost : (x : List ℕ) → loses_mark Private rows (create name guid d ∷ []) x ≡ false
  unlost x = any_none (λ (s : Record). is_share_of x s && false) rows (λ s. and-false (is_share_of x s))

  mark_stays : (r : Record) → mark_of Private rows (create name guid d ∷ []) all_rows r ≡ r.share
  mark_stays r i = option_map_or (λ (s : Record). Some s.name)
      (find_none (λ (s : Record). is_share_of r.name s && not (is_there rows s.name)) all_rows (unshared r.name) i)
      (if unlost r.name i then None else r.share)

  working_is : working its_request ≡ all_rows
  working_is = ap (with_marks Private rows (create name guid d ∷ [])) puts_written
      ∙ map_same (λ (r : Record). record r { share = mark_of Private rows (create name guid d ∷ []) all_rows r }) (λ r i. record r { share = mark_stays r i }) all_rows

  put_is : (x : List ℕ) → is_put its_request x ≡ same x name
  put_is x = ap (λ rs. (same x name || false) || list_any (is_new_share_of its_request.seen x) rs) working_is
      ∙ ap (λ b. (same x name || false) || b) (unshared x) ∙ or-false (same x name || false) ∙ or-false (same x name)

  put_alone : filter (λ (r : Record). is_put its_request r.name) (working its_request) ≡ drafted_record name d ∷ []
  put_alone = (λ i. filter (λ (r : Record). put_is r.name i) (working_is i))
      ∙ filtered_alone rows (drafted_record name d) (λ (r : Record). same r.name name) (λ q off. off)
      ∙ ap (λ b. cond b (drafted_record name d ∷ []) []) (same-refl name)

  after_puts_is : after_puts its_request ≡ all_rows
  after_puts_is = ap (λ some. map (after_leaving its_request) (fold with_record rows some)) put_alone ∙ map_same (after_leaving its_request) (λ r. refl) all_rows

  none_removed : removed its_request ≡ []
  none_removed = none_reached (after_puts its_request) (length (after_puts its_request))

  unmarked_none : (r : Record) → is_unmarked its_request [] r ≡ false
  unmarked_none r = any_none (λ (s : Record). is_share_of r.name s && false) (after_puts its_request) (λ s. and-false (is_share_of r.name s))

  abbrev put_of : Bool → Record → Option Write
  put_of b r = write_as false b (stamped its_request r)

  write_is : (r : Record) → write_of its_request [] r ≡ put_of (same r.name name) r
  write_is r = (λ i. write_as false (put_is r.name i || unmarked_none r i) (record (stamped its_request r) { share = if unmarked_none r i then None else r.share }))
      ∙ ap (λ b. put_of b r) (or-false (same r.name name))

  stamped_is : stamped its_request (drafted_record name d) ≡ its_record
  stamped_is i = record its_record { created = if free i then no_stamp else stamp its_request }

  writes_are : writes its_request (removed its_request) ≡ Put its_record ∷ []
  writes_are = ap (writes its_request) none_removed
      ∙ (λ i. filter_map (λ (r : Record). write_is r i) (after_puts_is i))
      ∙ mapped_alone rows (drafted_record name d) (λ (r : Record). put_of (same r.name name) r) (λ q off. ap (λ b. put_of b q) off)
      ∙ ap (λ b. cons_option (put_of b (drafted_record name d)) []) (same-refl name)
      ∙ ap (λ r. Put r ∷ []) stamped_is

  effect_is : effect its_request ≡ commit_of_put key key.owner moment its_record ∷ []
  effect_is = ap (commits_with its_request) writes_are

  found_new : record_at (working its_request) name ≡ Some (drafted_record name d)
  found_new = ap (λ rs. record_at rs name) working_is ∙ found-with rows (drafted_record name d) name
      ∙ ap (λ b. cond b (Some (drafted_record name d)) (record_at rows name)) (same-refl name)

  done_is : done its_request (create name guid d) ≡ Placed its_record
  done_is = ap (λ (o : Option Record). option_map_or (λ (r : Record). Placed (stamped its_request r)) o (Deleted name)) found_new ∙ ap Placed stamped_is

-- ---- the law

alone : (o : Option OpFault) → together (o ∷ []) ≡ o ∷ []
alone None = refl
alone (Some f) = refl

shown_by : (a b : Bool) (fault : OpFault) (seen : List Record) (op : NamedOp) → (if a then Some Exists else (if b then Some BadRequest else None)) ≡ Some fault → shown_with fault seen op ≡ None
shown_by true b fault seen op e = subst (λ f. shown_with f seen op ≡ None) (same_Some Exists fault e) refl
shown_by false true fault seen op e = subst (λ f. shown_with f seen op ≡ None) (same_Some BadRequest fault e) refl
shown_by false false fault seen op e = absurd (both_ways false refl (ap (λ (o : Option OpFault). option_map_or (λ _. true) o false) e))

free_by : (a b : Bool) → (if a then Some Exists else (if b then Some BadRequest else None)) ≡ None → a ≡ false
free_by true b e = absurd (both_ways true (ap (λ (o : Option OpFault). option_map_or (λ _. true) o false) e) refl)
free_by false b e = refl

view_is : (key : ZoneKey) (log : List Commit) → (zone_at log key).there ≡ true → view_of log key.owner Private key ≡ record { here = true; rows = (zone_at log key).rows }
view_is key log there = ap (λ b. if b then owner_view (zone_at log key) else nowhere) (same-refl key.owner)
    ∙ ap (λ b. if b then record { here = true; rows = (zone_at log key).rows } else nowhere) there

module _ (key : ZoneKey) (moment : ℕ) (log : List Commit) (name guid : List ℕ) (d : Draft) (there : (zone_at log key).there ≡ true) (plain : IsPlain d) where
  past_is : is_taken (name_history log key (create name guid d ∷ [])) name ≡ is_there (zone_at log key).rows name
  past_is = ap (λ b. is_some_and (λ (p : Past). p.taken) (cond b (Some (past_of log key name)) None)) (same-refl name)

  judged_at : judgement_at (owner key) moment log (create name guid d ∷ []) ≡ refusal_of_create (zone_at log key).rows name d ∷ []
  judged_at = ap (λ v. judgement v (name_history log key (create name guid d ∷ [])) (create name guid d ∷ []) (owner key)) (view_is key log there)
      ∙ ap (λ o. together (o ∷ [])) (fault_is key (name_history log key (create name guid d ∷ [])) (zone_at log key).rows name guid d plain (is_there (zone_at log key).rows name) refl past_is)
      ∙ alone (refusal_of_create (zone_at log key).rows name d)

  refused_at : (fault : OpFault) → refusal_of_create (zone_at log key).rows name d ≡ Some fault
      → modified_as_one (owner key) moment log (create name guid d ∷ []) ≡ record { outcomes = Refused fault None ∷ []; commits = [] }
  refused_at fault e =
      let q = request_at (owner key) moment log (create name guid d ∷ []) in
      let judged = judged_at ∙ ap (λ o. o ∷ []) e in
      (λ i. record { outcomes = map (outcome_of q) (zip (create name guid d ∷ []) (judged i)); commits = if has_fault (judged i) then [] else effect q })
      ∙ ap (λ o. record { outcomes = Refused fault o ∷ []; commits = [] }) (shown_by (is_there (zone_at log key).rows name) (is_none d.rtype || is_too_large d) fault q.seen (create name guid d) e)

  made_at : refusal_of_create (zone_at log key).rows name d ≡ None
      → (let r = created_record key.owner moment (puts_at log key) name d in
      modified_as_one (owner key) moment log (create name guid d ∷ []) ≡ record { outcomes = Placed r ∷ []; commits = commit_of_put key key.owner moment r ∷ [] })
  made_at e =
      let rows = (zone_at log key).rows in
      let free = free_by (is_there rows name) (is_none d.rtype || is_too_large d) e in
      let judged = judged_at ∙ ap (λ o. o ∷ []) e in
      let at : View → Request = λ v. record { caller = owner key; moment = moment; seen = v.rows; rows = rows; puts = puts_at log key; ops = create name guid d ∷ [] } in
      (λ i. record { outcomes = map (outcome_of (at (view_is key log there i))) (zip (create name guid d ∷ []) (judged i)); commits = if has_fault (judged i) then [] else effect (at (view_is key log there i)) })
      ∙ (λ i. record {
        outcomes = done_is key moment rows (puts_at log key) name guid d plain (ascending-zone log key) free i ∷ [];
        commits = effect_is key moment rows (puts_at log key) name guid d plain (ascending-zone log key) free i;
      })

create_kind : (kind : OpKind) → is_create kind ≡ true → kind ≡ Create
create_kind Create e = refl
create_kind Update e = absurd (both_ways false refl e)
create_kind ForceUpdate e = absurd (both_ways false refl e)
create_kind Replace e = absurd (both_ways false refl e)
create_kind ForceReplace e = absurd (both_ways false refl e)
create_kind Delete e = absurd (both_ways false refl e)
create_kind ForceDelete e = absurd (both_ways false refl e)

owner_is : (caller : Caller) → IsOwner caller → caller ≡ owner caller.key
owner_is caller own i = record { user = own.user i; scope = own.scope i; key = caller.key }

create_is : (op : NamedOp) → is_create op.kind ≡ true → op ≡ create op.name op.guid op.draft
create_is op e i = record { kind = create_kind op.kind e i; draft = op.draft; name = op.name; guid = op.guid }

pub owners_see : OwnersSeeAll
owners_see caller log own there = (λ i. view_of log (own.user i) (own.scope i) caller.key) ∙ view_is caller.key log there

pub creates_done : PlainCreatesAreDone
creates_done = record {
  judged = λ caller moment log op own there plain.
      let parts = and_parts (is_create op.kind) _ plain in
      (λ i. judgement_at (owner_is caller own i) moment log (create_is op parts.0 i ∷ [])) ∙ judged_at caller.key moment log op.name op.guid op.draft there (is_plain op.draft parts.1);
  refused = λ caller moment log op fault own there plain e.
      let parts = and_parts (is_create op.kind) _ plain in
      (λ i. modified_as_one (owner_is caller own i) moment log (create_is op parts.0 i ∷ []))
      ∙ refused_at caller.key moment log op.name op.guid op.draft there (is_plain op.draft parts.1) fault e;
  made = λ caller moment log op own there plain e.
      let parts = and_parts (is_create op.kind) _ plain in
      (λ i. modified_as_one (owner_is caller own i) moment log (create_is op parts.0 i ∷ []))
      ∙ made_at caller.key moment log op.name op.guid op.draft there (is_plain op.draft parts.1) e
      ∙ sym (ap (λ user.
      let r = created_record user moment (puts_at log caller.key) op.name op.draft in
      record { outcomes = Placed r ∷ []; commits = commit_of_put caller.key user moment r ∷ [] }) own.user);
}

-- ---- the form

typed_by : (a b c : Bool) → (if a then Some Exists else (if b || c then Some BadRequest else None)) ≡ None → b ≡ false
typed_by true b c e = absurd (both_ways true (ap (λ (o : Option OpFault). option_map_or (λ _. true) o false) e) refl)
typed_by false true c e = absurd (both_ways true (ap (λ (o : Option OpFault). option_map_or (λ _. true) o false) e) refl)
typed_by false false c e = refl

small_by : (a b c : Bool) → (if a then Some Exists else (if b || c then Some BadRequest else None)) ≡ None → c ≡ false
small_by true b c e = absurd (both_ways true (ap (λ (o : Option OpFault). option_map_or (λ _. true) o false) e) refl)
small_by false true c e = absurd (both_ways true (ap (λ (o : Option OpFault). option_map_or (λ _. true) o false) e) refl)
small_by false false true e = absurd (both_ways true (ap (λ (o : Option OpFault). option_map_or (λ _. true) o false) e) refl)
small_by false false false e = refl

plain_type : (o : Option (List ℕ)) → is_none o ≡ false → is_some_and is_share_type o ≡ false → is_share_type (unwrap_or o []) ≡ false
plain_type None e off = absurd (both_ways true e refl)
plain_type (Some x) e off = off

pub creates_in_form : PlainCreatesAreInForm
creates_in_form = record {
  kept = λ user moment rows puts op plain e named meant is in_range counts.
      let d = op.draft in
      let p = is_plain d (and_parts (is_create op.kind) _ plain).1 in
      let typed = typed_by (is_there rows op.name) (is_none d.rtype) (is_too_large d) e in
      record {
        name = named;
        rtype = some_form d.rtype typed meant.rtype;
        tag = (omega arith, counts);
        parent = tt;
        share = tt;
        fields = fields-form d.fields [] meant.fields.0 (tt, refl) (small_by (is_there rows op.name) (is_none d.rtype) (is_too_large d) e);
        created = record { moment = in_range; user = is };
        modified = record { moment = in_range; user = is };
        body = plain_type d.rtype typed p.rtype;
      };
  formed = λ key user moment r its_key is in_range stored. record {
    key = its_key;
    user = is;
    moment = in_range;
    act = record { some = (omega arith, omega arith); each = (stored, tt); ordered = refl };
  };
}
