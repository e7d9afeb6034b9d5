-- The rules at worked examples with references. The references of a value don't compute by themselves: where a
-- judgement or a removal looks at them, it is told for each value that has just those references.
use Rattle.std.proofs.Common.{◌≡◌, ℕ, ◌+◌, List, [], ◌∷◌, ◌++◌, Some, None, refl, sym, ap, ◌∙◌, subst, true, false, length, Option, map}
use Rattle.std.specs.Prelude.{codes, zip, if◌then◌else◌}
use Rattle.std.specs.Fmt.{digits}
use Rattle.std.proofs.lemmas.Bool.{and_from}
use Rattle.ck_base.specs.declared.scope.Scope.TheVariants.{Private, Shared}
use Rattle.record_model.specs.declared.value.Action.{Action}
use Rattle.record_model.specs.declared.value.Action.TheVariants.{DeleteSelf, Validate}
use Rattle.record_model.specs.declared.value.RefTo.{RefTo}
use Rattle.record_model.specs.declared.value.Value.{Value, out-Value, out-roll-Value, fold-roll-Value}
use Rattle.record_model.specs.declared.value.Value.TheVariants.{Reference, rolls-Reference}
use Rattle.record_model.specs.declared.value.Value.TheOpen.{Value-F}
use Rattle.record_model.specs.ValueSizes.{size, size_step}
use Rattle.share_records.specs.declared.permission.Permission.TheVariants.{Nothing, ReadWrite}
use Rattle.share_records.specs.declared.participant.PartKind.TheVariants.{Member}
use Rattle.record_model.specs.declared.records.Record.{Record}
use Rattle.record_model.specs.declared.records.Body.TheVariants.{Plain, Share}
use Rattle.record_model.specs.declared.draft.ParentWish.TheVariants.{Absent, To}
use Rattle.zone_model.specs.Requests.{NamedOp}
use Rattle.zone_model.specs.declared.outcomes.OpFault.{OpFault}
use Rattle.zone_model.specs.declared.outcomes.OpFault.TheVariants.{Validating}
use Rattle.zone_model.specs.declared.commits.Write.TheVariants.{Put, Remove, PutRemove}
use Rattle.zone_model.specs.declared.commits.Act.TheVariants.{Writes}
use Rattle.zone_model.specs.declared.commits.Commit.{Commit}
use Rattle.zone_model.specs.References.{references_in, level_references}
use Rattle.zone_model.specs.Requests.{Caller}
use Rattle.zone_model.specs.Views.{view_of}
use Rattle.zone_model.specs.Grounds.{Grounds, names_taken}
use Rattle.zone_model.specs.Judging.{faults_of, together, has_fault}
use Rattle.zone_model.specs.Putting.{no_stamp}
use Rattle.zone_model.specs.Cascade.{due, removed_names}
use Rattle.zone_model.specs.Effect.{Request, after_puts, effect, commits_with, writes}
use Rattle.zone_model.specs.Modifying.{request_at, judgement_at, effect_at, outcome_of}
use Rattle.zone_laws.specs.LawfulTests.{are_well_formed, are_lawful}
use Rattle.zone_laws.proofs.LawfulLaws.{lawful-append, lawful-effect, request_by}
use Rattle.zone_rows.proofs.RowWords.{ann, bob, notes, create, create_under, create_bound, create_share, update, delete, invited, op_of, share_draft, act, made, link, asked_by, asks, acceptance, accepts, put, gone, refused, told_of, told, seen}

abbrev a : List ℕ
a = codes "a"

abbrev b : List ℕ
b = codes "b"

abbrev c : List ℕ
c = codes "c"

abbrev d : List ℕ
d = codes "d"

abbrev e : List ℕ
e = codes "e"

abbrev h : List ℕ
h = codes "h"

abbrev r : List ℕ
r = codes "r"

abbrev s : List ℕ
s = codes "s"

abbrev x : List ℕ
x = codes "x"

-- ---- values that refer

abbrev pub to : Action → List ℕ → RefTo
to action target = record { name = target; action = action }

pub references_to : (q : RefTo) → references_in (Reference q) ≡ q ∷ []
references_to q = ap level_references (ap out-Value (sym (rolls-Reference q)) ∙ out-roll-Value (Value-F.Reference q))

pub size_to : (q : RefTo) → size (Reference q) ≡ length q.name + 8
size_to q = ap size (sym (rolls-Reference q)) ∙ fold-roll-Value ℕ size_step (Value-F.Reference q)

-- ---- requests whose judgement and removal are told

abbrev pub by_ann : Caller
by_ann = record { user = ann; scope = Private; key = notes }

abbrev pub by_bob : Caller
by_bob = record { user = bob; scope = Shared; key = notes }

abbrev asked : Caller → List Commit → List NamedOp → Request
asked caller log ops = request_at caller 1000 log ops

-- where nothing has a fault, the commit is the effect
pub judged_effect : (caller : Caller) (moment : ℕ) (log : List Commit) (ops : List NamedOp) (faults : List (Option OpFault))
    → judgement_at caller moment log ops ≡ faults → has_fault faults ≡ false → effect_at caller moment log ops ≡ effect (request_at caller moment log ops)
judged_effect caller moment log ops faults judged none = ap (λ b. if b then [] else effect (request_at caller moment log ops)) (ap has_fault judged ∙ none)

-- and this comes from the records after the puts and the names that go
pub effect_from : (q : Request) (rows : List Record) (taken names : List (List ℕ)) → after_puts q ≡ rows → names_taken q.caller q.seen q.ops ≡ taken → removed_names rows taken ≡ names
    → effect q ≡ commits_with q (writes q names)
effect_from q rows taken names after takes goes = ap (λ gone. commits_with q (writes q gone))
    (ap (λ some. removed_names some (names_taken q.caller q.seen q.ops)) after ∙ ap (removed_names rows) takes ∙ goes)

-- a plain record that ann has made
abbrev row : List ℕ → Option (List ℕ) → List (List ℕ × Value) → Record
row name parent fields = record {
  name = name;
  rtype = codes "T";
  tag = 1;
  parent = parent;
  share = None;
  fields = fields;
  created = record { moment = 1000; user = ann };
  modified = record { moment = 1000; user = ann };
  body = Plain;
}

abbrev field : Value → List (List ℕ × Value)
field v = (codes "f", v) ∷ []

-- ann judges by all records, which here no put changes
abbrev grounds : List Record → List (List ℕ) → Grounds
grounds rows taken = record { caller = by_ann; pasts = []; seen = rows; working = rows; taken = taken }

abbrev puts_of : List Record → Commit
puts_of rows = act (Writes (map Put rows))

-- ---- parents and removal

abbrev bound_rows : Value → List Record
bound_rows v = row a None [] ∷ row b (Some a) (field v) ∷ row c (Some b) [] ∷ []

abbrev to_a : Value
to_a = Reference (to DeleteSelf a)

abbrev bound_ops : List NamedOp
bound_ops = create a ∷ create_bound b (To a) DeleteSelf a ∷ create_under c b ∷ []

abbrev bound : List Commit
bound = made ++ puts_of (bound_rows to_a) ∷ []

pub bound_is_lawful : are_lawful [] bound ≡ true
unfolding digits
bound_is_lawful = rw (size_to (to DeleteSelf a)) refl

bound_judged : judgement_at by_ann 1000 made bound_ops ≡ None ∷ None ∷ None ∷ []
unfolding digits
bound_judged = rw (references_to (to DeleteSelf a), size_to (to DeleteSelf a)) refl

pub bound_is_made : asks made bound_ops ≡ bound
unfolding digits
bound_is_made = ap (λ faults. made ++ (if has_fault faults then [] else effect (asked by_ann made bound_ops))) bound_judged

abbrev delete_a : List NamedOp
delete_a = delete a 1 ∷ []

bound_faults : (v : Value) → references_in v ≡ to DeleteSelf a ∷ [] → faults_of (grounds (bound_rows v) (a ∷ [])) delete_a ≡ None ∷ []
unfolding digits
bound_faults v is = rw is refl

bound_removed : (v : Value) → references_in v ≡ to DeleteSelf a ∷ [] → removed_names (bound_rows v) (a ∷ []) ≡ a ∷ b ∷ c ∷ []
bound_removed v is = rw is refl

chain_judged : judgement_at by_ann 1000 bound delete_a ≡ None ∷ []
unfolding digits
chain_judged = ap together (bound_faults to_a (references_to (to DeleteSelf a)))

pub chain_goes : told (asked_by ann Private bound true delete_a) ≡ gone a ∷ []
unfolding digits
chain_goes = ap (λ faults. map told_of (map (outcome_of (asked by_ann bound delete_a)) (zip delete_a faults))) chain_judged

pub chain_goes_at_once : (asked_by ann Private bound true delete_a).commits ≡ act (Writes (Remove a ∷ Remove b ∷ Remove c ∷ [])) ∷ []
unfolding digits
chain_goes_at_once =
    ap (λ faults. if has_fault faults then [] else effect (asked by_ann bound delete_a)) chain_judged
    ∙ ap (λ names. commits_with (asked by_ann bound delete_a) (writes (asked by_ann bound delete_a) names)) (bound_removed to_a (references_to (to DeleteSelf a)))

pub nothing_is_left : seen (asks bound delete_a) ann Private ≡ []
nothing_is_left = ap (λ cs. seen (bound ++ cs) ann Private) chain_goes_at_once

pub removal_is_lawful : are_lawful [] (asks bound delete_a) ≡ true
unfolding digits
removal_is_lawful = ap (λ cs. are_lawful [] (bound ++ cs)) chain_goes_at_once ∙ rw (size_to (to DeleteSelf a)) refl

-- ---- put and removed at once

abbrev loose_rows : Value → List Record
loose_rows v = row a None [] ∷ row b None (field v) ∷ row c (Some b) [] ∷ []

abbrev loose : List Commit
loose = made ++ puts_of (loose_rows to_a) ∷ []

pub loose_is_lawful : are_lawful [] loose ≡ true
unfolding digits
loose_is_lawful = rw (size_to (to DeleteSelf a)) refl

abbrev loose_ops : List NamedOp
loose_ops = create a ∷ create_bound b Absent DeleteSelf a ∷ create_under c b ∷ []

loose_judged : judgement_at by_ann 1000 made loose_ops ≡ None ∷ None ∷ None ∷ []
unfolding digits
loose_judged = rw (references_to (to DeleteSelf a), size_to (to DeleteSelf a)) refl

pub loose_is_made : asks made loose_ops ≡ loose
unfolding digits
loose_is_made = ap (λ faults. made ++ (if has_fault faults then [] else effect (asked by_ann made loose_ops))) loose_judged

abbrev update_and_delete : List NamedOp
update_and_delete = update c 1 ∷ delete a 1 ∷ []

loose_faults : (v : Value) → references_in v ≡ to DeleteSelf a ∷ [] → faults_of (grounds (loose_rows v) (a ∷ [])) update_and_delete ≡ None ∷ None ∷ []
unfolding digits
loose_faults v is = rw is refl

loose_removed : (v : Value) → references_in v ≡ to DeleteSelf a ∷ [] → removed_names (loose_rows v) (a ∷ []) ≡ a ∷ b ∷ c ∷ []
loose_removed v is = rw is refl

both_judged : judgement_at by_ann 1000 loose update_and_delete ≡ None ∷ None ∷ []
unfolding digits
both_judged = ap together (loose_faults to_a (references_to (to DeleteSelf a)))

pub put_is_answered : told (asked_by ann Private loose true update_and_delete) ≡ put c 2 ∷ gone a ∷ []
unfolding digits
put_is_answered = ap (λ faults. map told_of (map (outcome_of (asked by_ann loose update_and_delete)) (zip update_and_delete faults))) both_judged

pub put_goes_at_once : (asked_by ann Private loose true update_and_delete).commits ≡ act (Writes (Remove a ∷ Remove b ∷ PutRemove c ∷ [])) ∷ []
unfolding digits
put_goes_at_once =
    ap (λ faults. if has_fault faults then [] else effect (asked by_ann loose update_and_delete)) both_judged
    ∙ ap (λ names. commits_with (asked by_ann loose update_and_delete) (writes (asked by_ann loose update_and_delete) names)) (loose_removed to_a (references_to (to DeleteSelf a)))

pub put_is_gone : seen (asks loose update_and_delete) ann Private ≡ []
put_is_gone = ap (λ cs. seen (loose ++ cs) ann Private) put_goes_at_once

pub put_and_removed_is_lawful : are_lawful [] (asks loose update_and_delete) ≡ true
unfolding digits
put_and_removed_is_lawful = ap (λ cs. are_lawful [] (loose ++ cs)) put_goes_at_once ∙ rw (size_to (to DeleteSelf a)) refl

pub removed_put_counts : seen (asks (asks loose update_and_delete) (create c ∷ [])) ann Private ≡ (c, 3) ∷ []
unfolding digits
removed_put_counts = ap (λ cs. seen (asks (loose ++ cs) (create c ∷ [])) ann Private) put_goes_at_once

pub third_put_is_lawful : are_lawful [] (asks (asks loose update_and_delete) (create c ∷ [])) ≡ true
unfolding digits
third_put_is_lawful = ap (λ cs. are_lawful [] (asks (loose ++ cs) (create c ∷ []))) put_goes_at_once ∙ rw (size_to (to DeleteSelf a)) refl

-- ---- a reference that holds back

abbrev wanting_rows : Value → List Record
wanting_rows v = row d None [] ∷ row e None (field v) ∷ []

abbrev to_d : Value
to_d = Reference (to Validate d)

abbrev wanting : List Commit
wanting = made ++ puts_of (wanting_rows to_d) ∷ []

abbrev wanting_ops : List NamedOp
wanting_ops = create d ∷ create_bound e Absent Validate d ∷ []

wanting_judged : judgement_at by_ann 1000 made wanting_ops ≡ None ∷ None ∷ []
unfolding digits
wanting_judged = rw (references_to (to Validate d), size_to (to Validate d)) refl

pub wanting_is_made : asks made wanting_ops ≡ wanting
unfolding digits
wanting_is_made = ap (λ faults. made ++ (if has_fault faults then [] else effect (asked by_ann made wanting_ops))) wanting_judged

-- a target has to be there, or to come with the request
target_judged : judgement_at by_ann 1000 made (create_bound e Absent Validate d ∷ []) ≡ Some Validating ∷ []
unfolding digits
target_judged = rw (references_to (to Validate d), size_to (to Validate d)) refl

pub target_is_missing : told (asked_by ann Private made true (create_bound e Absent Validate d ∷ [])) ≡ refused Validating ∷ []
unfolding digits
target_is_missing =
    let ops = create_bound e Absent Validate d ∷ [] in
    ap (λ faults. map told_of (map (outcome_of (asked by_ann made ops)) (zip ops faults))) target_judged

one_faults : (v : Value) → references_in v ≡ to Validate d ∷ [] → faults_of (grounds (wanting_rows v) (d ∷ [])) (delete d 1 ∷ []) ≡ Some Validating ∷ []
unfolding digits
one_faults v is = rw is refl

two_faults : (v : Value) → references_in v ≡ to Validate d ∷ [] → faults_of (grounds (wanting_rows v) (d ∷ e ∷ [])) (delete d 1 ∷ delete e 1 ∷ []) ≡ None ∷ None ∷ []
unfolding digits
two_faults v is = rw is refl

pub wanting_is_lawful : are_lawful [] wanting ≡ true
unfolding digits
wanting_is_lawful = rw (size_to (to Validate d)) refl

pub reference_holds_back : told (asked_by ann Private wanting true (delete d 1 ∷ [])) ≡ refused Validating ∷ []
unfolding digits
reference_holds_back =
    let ops = delete d 1 ∷ [] in
    ap (λ faults. map told_of (map (outcome_of (asked by_ann wanting ops)) (zip ops (together faults)))) (one_faults to_d (references_to (to Validate d)))

pub both_may_go : told (asked_by ann Private wanting true (delete d 1 ∷ delete e 1 ∷ [])) ≡ gone d ∷ gone e ∷ []
unfolding digits
both_may_go =
    let ops = delete d 1 ∷ delete e 1 ∷ [] in
    ap (λ faults. map told_of (map (outcome_of (asked by_ann wanting ops)) (zip ops (together faults)))) (two_faults to_d (references_to (to Validate d)))

-- ---- a hidden record goes too

abbrev to_x : Value
to_x = Reference (to DeleteSelf x)

abbrev first_rows : Value → List Record
first_rows v = row h None (field v) ∷ row r None [] ∷ row x (Some r) [] ∷ []

abbrev first_ops : List NamedOp
first_ops = create_bound h Absent DeleteSelf x ∷ create r ∷ create_under x r ∷ []

first_judged : judgement_at by_ann 1000 made first_ops ≡ None ∷ None ∷ None ∷ []
unfolding digits
first_judged = rw (references_to (to DeleteSelf x), size_to (to DeleteSelf x)) refl

abbrev first : Value → List Commit
first v = made ++ puts_of (first_rows v) ∷ []

pub first_is_made : asks made first_ops ≡ first to_x
unfolding digits
first_is_made = ap (λ faults. made ++ (if has_fault faults then [] else effect (asked by_ann made first_ops))) first_judged

-- h is no part of what bob sees
abbrev covered : Value → List Commit
covered v = accepts (asks (first v) (create_share s r 1 (invited bob ReadWrite ∷ []) ∷ [])) bob s

pub hidden_is_not_seen : seen (covered to_x) bob Shared ≡ (r, 2) ∷ (s, 2) ∷ (x, 1) ∷ []
unfolding digits
hidden_is_not_seen = refl

-- the zone's records as they are then
abbrev covered_rows : Value → List Record
covered_rows v =
    row h None (field v)
    ∷ record (row r None []) { tag = 2; share = Some s }
    ∷ record (row s None []) {
      rtype = codes "cloudkit.share";
      tag = 2;
      modified = record { moment = 1000; user = bob };
      body = Share (record { root = r; guid = link; public = Nothing; participants = record { user = bob; kind = Member; permission = ReadWrite; accepted = true } ∷ [] });
    }
    ∷ row x (Some r) []
    ∷ []

hidden_due : (v : Value) → references_in v ≡ to DeleteSelf x ∷ [] → due (covered_rows v) (x ∷ []) (x ∷ []) ≡ h ∷ x ∷ []
hidden_due v is = rw is refl

hidden_rests : (v : Value) → references_in v ≡ to DeleteSelf x ∷ [] → due (covered_rows v) (x ∷ []) (h ∷ x ∷ []) ≡ h ∷ x ∷ []
hidden_rests v is = rw is refl

-- round after round
hidden_removed : (v : Value) → references_in v ≡ to DeleteSelf x ∷ [] → removed_names (covered_rows v) (x ∷ []) ≡ h ∷ x ∷ []
hidden_removed v is =
    let next : List (List ℕ) → List (List ℕ) = due (covered_rows v) (x ∷ []) in
    ap (λ names. next (next names)) (hidden_due v is) ∙ ap next (hidden_rests v is) ∙ hidden_rests v is

hidden_after : after_puts (asked by_bob (covered to_x) (delete x 1 ∷ [])) ≡ covered_rows to_x
unfolding digits
hidden_after = refl

hidden_taken : names_taken by_bob (view_of (covered to_x) bob Shared notes).rows (delete x 1 ∷ []) ≡ x ∷ []
unfolding digits
hidden_taken = refl

hidden_judged : judgement_at by_bob 1000 (covered to_x) (delete x 1 ∷ []) ≡ None ∷ []
unfolding digits
hidden_judged = refl

hidden_written : commits_with (asked by_bob (covered to_x) (delete x 1 ∷ [])) (writes (asked by_bob (covered to_x) (delete x 1 ∷ [])) (h ∷ x ∷ []))
    ≡ record { key = notes; user = bob; moment = 1000; act = Writes (Remove h ∷ Remove x ∷ []) } ∷ []
unfolding digits
hidden_written = refl

pub hidden_goes : effect_at by_bob 1000 (covered to_x) (delete x 1 ∷ [])
    ≡ record { key = notes; user = bob; moment = 1000; act = Writes (Remove h ∷ Remove x ∷ []) } ∷ []
hidden_goes =
    judged_effect by_bob 1000 (covered to_x) (delete x 1 ∷ []) (None ∷ []) hidden_judged refl
    ∙ effect_from (asked by_bob (covered to_x) (delete x 1 ∷ [])) (covered_rows to_x) (x ∷ []) (h ∷ x ∷ []) hidden_after hidden_taken (hidden_removed to_x (references_to (to DeleteSelf x)))
    ∙ hidden_written

abbrev shared_first : Value → List Commit
shared_first v = asks (first v) (create_share s r 1 (invited bob ReadWrite ∷ []) ∷ [])

first_lawful : are_lawful [] (first to_x) ≡ true
unfolding digits
first_lawful = rw (size_to (to DeleteSelf x)) refl

covered_formed : (v : Value) → size v ≡ 9 → are_well_formed (covered_rows v) ≡ true
covered_formed v is = rw is refl

acceptance_lawful : (v : Value) → size v ≡ 9 → are_lawful (shared_first v) (acceptance (shared_first v) bob s) ≡ true
unfolding digits
acceptance_lawful v is = and_from (are_well_formed (covered_rows v)) true (covered_formed v is) refl

covered_lawful : are_lawful [] (covered to_x) ≡ true
unfolding digits
covered_lawful = lawful-append [] (shared_first to_x) (acceptance (shared_first to_x) bob s)
    (lawful-append [] (first to_x) (asked_by ann Private (first to_x) true (create_share s r 1 (invited bob ReadWrite ∷ []) ∷ [])).commits first_lawful
    (request_by true by_ann 1000 (first to_x) (create_share s r 1 (invited bob ReadWrite ∷ []) ∷ []) first_lawful refl refl))
    (acceptance_lawful to_x (size_to (to DeleteSelf x)))

pub hidden_goes_lawfully : are_lawful [] (covered to_x ++ record { key = notes; user = bob; moment = 1000; act = Writes (Remove h ∷ Remove x ∷ []) } ∷ []) ≡ true
unfolding digits
hidden_goes_lawfully = lawful-append [] (covered to_x) (record { key = notes; user = bob; moment = 1000; act = Writes (Remove h ∷ Remove x ∷ []) } ∷ []) covered_lawful
    (subst (λ cs. are_lawful (covered to_x) cs ≡ true) hidden_goes (lawful-effect by_bob 1000 (covered to_x) (delete x 1 ∷ []) covered_lawful refl refl))

-- ---- a new share that goes with a removal, whose root stays

abbrev to_d_too : Value
to_d_too = Reference (to DeleteSelf d)

abbrev two : List Commit
two = made ++ puts_of (row d None [] ∷ row r None [] ∷ []) ∷ []

pub two_are_lawful : are_lawful [] two ≡ true
unfolding digits
two_are_lawful = refl

abbrev share_and_delete : List NamedOp
share_and_delete = op_of (record (share_draft s r (Some (codes "1")) []) { fields = (codes "f", Some to_d_too) ∷ [] }) ∷ delete d 1 ∷ []

abbrev shared_rows : Value → List Record
shared_rows v =
    row d None []
    ∷ record (row r None []) { share = Some s }
    ∷ record {
      name = s;
      rtype = codes "cloudkit.share";
      tag = 0;
      parent = None;
      share = None;
      fields = field v;
      created = no_stamp;
      modified = no_stamp;
      body = Share (record { root = r; guid = link; public = Nothing; participants = [] });
    }
    ∷ []

share_judged : judgement_at by_ann 1000 two share_and_delete ≡ None ∷ None ∷ []
unfolding digits
share_judged = rw (references_to (to DeleteSelf d), size_to (to DeleteSelf d)) refl

share_removed : (v : Value) → references_in v ≡ to DeleteSelf d ∷ [] → removed_names (shared_rows v) (d ∷ []) ≡ d ∷ s ∷ []
share_removed v is = rw is refl

-- the root is written once, with its next tag and without the share
abbrev root_written : Record
root_written = record (row r None []) { tag = 2 }

share_written : commits_with (asked by_ann two share_and_delete) (writes (asked by_ann two share_and_delete) (d ∷ s ∷ []))
    ≡ act (Writes (Remove d ∷ Put root_written ∷ PutRemove s ∷ [])) ∷ []
unfolding digits
share_written = refl

pub share_goes : effect_at by_ann 1000 two share_and_delete ≡ act (Writes (Remove d ∷ Put root_written ∷ PutRemove s ∷ [])) ∷ []
unfolding digits
share_goes =
    judged_effect by_ann 1000 two share_and_delete (None ∷ None ∷ []) share_judged refl
    ∙ effect_from (asked by_ann two share_and_delete) (shared_rows to_d_too) (d ∷ []) (d ∷ s ∷ []) refl refl (share_removed to_d_too (references_to (to DeleteSelf d)))
    ∙ share_written

pub share_goes_lawfully : are_lawful [] (two ++ act (Writes (Remove d ∷ Put root_written ∷ PutRemove s ∷ [])) ∷ []) ≡ true
unfolding digits
share_goes_lawfully = refl
