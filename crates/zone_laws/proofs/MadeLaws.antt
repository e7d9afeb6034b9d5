-- Something is committed just where some outcome tells of something written.
use Rattle.std.proofs.Common.{◌≡◌, ℕ, zero, suc, List, [], ◌∷◌, Bool, true, false, cond, not, ◌&&◌, ◌||◌, refl, sym, ap, ◌∙◌, subst, Some, None, Option, map, length, arith, ⊎_elim}
use Rattle.std.specs.Prelude.{find, filter, filter_map, fold, zip, is_some, if◌then◌else◌}
use Rattle.std.specs.Option.{option_map_or}
use Rattle.std.specs.List.{list_any, list_all, cons_option, AllByRecursion}
use Rattle.std.proofs.lemmas.Bool.{both_ways, and_from, or_left, or_right, or_cases, or_parts}
use Rattle.name_rules.specs.Options.{is_some_and}
use Rattle.name_rules.proofs.NameLemmas.{same-true, same-refl, kept}
use Rattle.record_model.specs.declared.records.Record.{Record}
use Rattle.zone_model.specs.declared.operations.Past.{Past}
use Rattle.zone_model.specs.declared.outcomes.OpFault.{OpFault}
use Rattle.zone_model.specs.declared.outcomes.Outcome.TheVariants.{Put as Answered, Deleted}
use Rattle.zone_model.specs.declared.commits.Write.{Write}
use Rattle.zone_model.specs.declared.commits.Commit.{Commit}
use Rattle.zone_model.specs.Names.{same, is_in, is_private, is_shared, has_twice}
use Rattle.zone_model.specs.Records.{record_at, is_there, names_in, is_share, with_record}
use Rattle.zone_model.specs.Zones.{zone_at, written_name}
use Rattle.zone_model.specs.Views.{is_empty, view_of}
use Rattle.zone_model.specs.Past.{name_history}
use Rattle.zone_model.specs.Requests.{Caller, NamedOp, is_deletion, puts_in, roots_in, names_deleted}
use Rattle.zone_model.specs.Putting.{records_written}
use Rattle.zone_model.specs.Working.{is_new_share_of, is_share_of, with_puts, mark_of}
use Rattle.zone_model.specs.Grounds.{grounds_of, is_taken_by_deletion}
use Rattle.zone_model.specs.Cascade.{is_due, reached, removed_names}
use Rattle.zone_model.specs.Judging.{faults_of, has_fault}
use Rattle.zone_model.specs.Effect.{Request, working, is_put, is_left, after_leaving, after_puts, removed, stamped, is_unmarked, is_written, write_of, writes, commits_with, effect}
use Rattle.zone_model.specs.Modifying.{done, outcome_of, request_at, judgement_at, modified_as_one}
use Rattle.zone_laws.specs.LawfulTests.{are_lawful}
use Rattle.zone_laws.specs.Answering.{has_written, MadeWhereWritten}
use Rattle.zone_laws.proofs.RecordLaws.{found-name}
use Rattle.zone_laws.proofs.EffectLaws.{write_by}
use Rattle.zone_laws.proofs.AfterLaws.{write_named}
use Rattle.zone_laws.proofs.WorkingLaws.{put_at}
use Rattle.zone_laws.proofs.CoreLaws.{share-core}
use Rattle.zone_laws.proofs.JudgeLaws.{there-found}
use Rattle.zone_laws.proofs.KeptLaws.{IsFine, found_put, old-after}
use Rattle.zone_laws.proofs.ParentLaws.{after_in_order, taken-gone}
use Rattle.zone_laws.proofs.AnswerLaws.{all-refused}
use Rattle.zone_laws.proofs.ConflictLaws.{all_judged}
use Rattle.zone_laws.proofs.LawfulLaws.{is_fine}
use Rattle.zone_laws.proofs.OwnLaws.{put_stays as stays}
use Rattle.zone_laws.proofs.WrittenLaws.{found_write, shown_written}
use Rattle.zone_laws.proofs.TestLaws.{in_turn_back}

found_some : (ws : List Write) (x : List ℕ) (o : Option Write) → find (λ w. same x (written_name w)) ws ≡ o → is_some o ≡ true → is_empty ws ≡ false
found_some [] x o e some = absurd (both_ways false refl (ap is_some e ∙ some))
found_some (w ∷ ws) x o e some = refl

pub seen_there : (rows : List Record) (y : List ℕ) (o : Option Record) → record_at rows y ≡ o → is_there rows y ≡ true → (v : Record) × (record_at rows y ≡ Some v)
seen_there rows y None is e = absurd (both_ways false refl (sym (there-found rows y ∙ ap is_some is) ∙ e))
seen_there rows y (Some v) is e = (v, is)

pub private_by : (b s : Bool) → (b || not s) ≡ false → (not b ≡ true) × (s ≡ true)
private_by true s e = absurd (both_ways true e refl)
private_by false true e = (refl, refl)
private_by false false e = absurd (both_ways true e refl)

module _ (q : Request) (pasts : List Past) (fine : IsFine q pasts) where
  abbrev its_mark : Record → Record
  its_mark r = record r { share = mark_of q.caller.scope q.seen q.ops (with_puts q.seen q.ops) r }

  -- what is put is in the working view
  pub put_stays : (x : List ℕ) (p : NamedOp) → put_at (puts_in q.ops) x ≡ Some p → record_at (working q) x ≡ None → ⊥
  put_stays = stays q pasts fine.judged

  some_write : (goes written : Bool) (a : Record) → (goes || written) ≡ true → is_some (write_by q (removed q) goes written a) ≡ true
  some_write true true a e = refl
  some_write true false a e = refl
  some_write false true a e = refl
  some_write false false a e = e

  row_written : (x : List ℕ) (a : Record) → record_at (after_puts q) x ≡ Some a → (is_in (removed q) a.name || is_written q (removed q) a) ≡ true → is_empty (writes q (removed q)) ≡ false
  row_written x a at e = found_some (writes q (removed q)) x (write_of q (removed q) a)
      (found_write (write_of q (removed q)) (write_named q (removed q)) (after_puts q) x a (after_in_order q pasts fine) at)
      (some_write (is_in (removed q) a.name) (is_written q (removed q) a) a e)

  deleted_by : (b : Bool) (x : List ℕ) (v : Record) → record_at q.seen x ≡ Some v → is_in (names_deleted q.ops) x ≡ true → is_taken_by_deletion q.caller q.seen x ≡ b → is_empty (writes q (removed q)) ≡ false
  deleted_by true x v seen deleted taken =
      let old = old-after q pasts fine x v (fine.part.part x v seen) in
      let name : x ≡ old.row.name = same-true x old.row.name (found-name (after_puts q) x old.row old.at) in
      row_written x old.row old.at (or_left (is_in (removed q) old.row.name) _ (subst (λ y. is_in (removed q) y ≡ true) name
      (taken-gone q pasts fine x (kept (is_taken_by_deletion q.caller q.seen) (names_deleted q.ops) x taken deleted))))
  deleted_by false x v seen deleted taken =
      let old = old-after q pasts fine x v (fine.part.part x v seen) in
      let name : x ≡ old.row.name = same-true x old.row.name (found-name (after_puts q) x old.row old.at) in
      let kind = private_by (is_private q.caller.scope) (is_share v) (sym (ap (is_some_and (λ (r : Record). is_private q.caller.scope || not (is_share r))) seen) ∙ taken) in
      let share : is_share old.row ≡ true = share-core old.row ∙ ap is_some old.root ∙ sym (share-core v) ∙ kind.1 in
      let there : is_there q.seen old.row.name ≡ true = subst (λ y. is_there q.seen y ≡ true) name (there-found q.seen x ∙ ap is_some seen) in
      let left : is_left q old.row ≡ true = and_from (is_shared q.caller.scope) _ kind.0 (and_from (is_in (names_deleted q.ops) old.row.name) _ (subst (λ y. is_in (names_deleted q.ops) y ≡ true) name deleted)
      (and_from (is_share old.row) _ share there)) in
      row_written x old.row old.at (or_right (is_in (removed q) old.row.name) _ (or_right (is_put q old.row.name) _ (or_left (is_left q old.row) _ left)))

  -- a deletion of what is seen writes something
  deleted_written : (x : List ℕ) → is_in (names_deleted q.ops) x ≡ true → is_there q.seen x ≡ true → is_empty (writes q (removed q)) ≡ false
  deleted_written x deleted there =
      let v = seen_there q.seen x (record_at q.seen x) refl there in
      deleted_by (is_taken_by_deletion q.caller q.seen x) x v.0 v.1 deleted refl

  put_written : (x : List ℕ) (p : NamedOp) (r : Record) → put_at (puts_in q.ops) x ≡ Some p → record_at (working q) x ≡ Some r → is_empty (writes q (removed q)) ≡ false
  put_written x p r at is =
      let w = shown_written q pasts fine x p r at is in
      found_some (writes q (removed q)) (stamped q r).name (Some w.write) w.found refl

  -- ---- operations that write nothing

  -- a deletion of what is not seen
  pub record IsQuiet (op : NamedOp) : Type 0 where
    pub deletes : is_deletion op.kind ≡ true
    pub unseen : is_there q.seen op.name ≡ false

  no_puts_by : (d : Bool) (op : NamedOp) (ops : List NamedOp) → d ≡ true → puts_in ops ≡ [] → (if not d then op ∷ puts_in ops else puts_in ops) ≡ []
  no_puts_by true op ops e rest = rest
  no_puts_by false op ops e rest = absurd (both_ways false refl e)

  no_puts : (ops : List NamedOp) → AllByRecursion IsQuiet ops → puts_in ops ≡ []
  no_puts [] all = refl
  no_puts (op ∷ ops) all = no_puts_by (is_deletion op.kind) op ops all.0.deletes (no_puts ops all.1)

  unseen_by : (d : Bool) (op : NamedOp) (ops : List NamedOp) (x : List ℕ) → IsQuiet op → (is_in (names_deleted ops) x ≡ true → is_there q.seen x ≡ false)
      → is_in (map (λ (o : NamedOp). o.name) (cond d (op ∷ filter (λ (o : NamedOp). is_deletion o.kind) ops) (filter (λ (o : NamedOp). is_deletion o.kind) ops))) x ≡ true → is_there q.seen x ≡ false
  unseen_by true op ops x quiet rest e = ⊎_elim
      (λ (h : same x op.name ≡ true). subst (λ y. is_there q.seen y ≡ false) (sym (same-true x op.name h)) quiet.unseen)
      (λ (h : is_in (names_deleted ops) x ≡ true). rest h)
      (or_cases (same x op.name) (is_in (names_deleted ops) x) e)
  unseen_by false op ops x quiet rest e = rest e

  unseen_all : (ops : List NamedOp) (x : List ℕ) → AllByRecursion IsQuiet ops → is_in (names_deleted ops) x ≡ true → is_there q.seen x ≡ false
  unseen_all [] x all e = absurd (both_ways false refl e)
  unseen_all (op ∷ ops) x all e = unseen_by (is_deletion op.kind) op ops x all.0 (unseen_all ops x all.1) e

  none_passes : {X : Type 0} (p : X → Bool) (xs : List X) → ((x : X) → p x ≡ false) → filter p xs ≡ []
  none_passes p [] none = refl
  none_passes p (x ∷ xs) none = ap (λ b. cond b (x ∷ filter p xs) (filter p xs)) (none x) ∙ none_passes p xs none

  none_any : {X : Type 0} (p : X → Bool) (xs : List X) → ((x : X) → p x ≡ false) → list_any p xs ≡ false
  none_any p [] none = refl
  none_any p (x ∷ xs) none = ap (λ b. b || list_any p xs) (none x) ∙ none_any p xs none

  untaken_by : (names : List (List ℕ)) → ((x : List ℕ) → is_in names x ≡ true → is_there q.seen x ≡ false) → filter (is_taken_by_deletion q.caller q.seen) names ≡ []
  untaken_by [] unseen = refl
  untaken_by (x ∷ names) unseen =
      let none : record_at q.seen x ≡ None = absent (record_at q.seen x) (sym (there-found q.seen x) ∙ unseen x (or_left (same x x) _ (same-refl x))) in
      ap (λ b. cond b (x ∷ filter (is_taken_by_deletion q.caller q.seen) names) (filter (is_taken_by_deletion q.caller q.seen) names)) (ap (is_some_and (λ (r : Record). is_private q.caller.scope || not (is_share r))) none)
      ∙ untaken_by names (λ y i. unseen y (or_right (same y x) _ i))
    where
      absent : (o : Option Record) → is_some o ≡ false → o ≡ None
      absent None e = refl
      absent (Some r) e = absurd (both_ways true e refl)

  reached_none : (rows : List Record) (n : ℕ) → reached rows [] n ≡ []
  reached_none rows zero = refl
  reached_none rows (suc n) = ap (λ names. names_in (filter (is_due rows [] names) rows)) (reached_none rows n) ∙ ap names_in (none_passes (is_due rows [] []) rows (λ r. refl))

  module _ (quiet : AllByRecursion IsQuiet q.ops) where
    no_puts_here : puts_in q.ops ≡ []
    no_puts_here = no_puts q.ops quiet

    working_is : working q ≡ map its_mark q.seen
    working_is = ap (λ ps. map its_mark (fold with_record q.seen (records_written q.seen ps))) no_puts_here

    old_shares : (x : List ℕ) (some : List Record) → ((r : Record) → list_any (λ (t : Record). same t.name r.name) some ≡ true → is_there q.seen r.name ≡ true) → list_any (is_new_share_of q.seen x) (map its_mark some) ≡ false
    old_shares x [] within = refl
    old_shares x (r ∷ some) within =
        ap (λ b. (is_share_of x (its_mark r) && not b) || list_any (is_new_share_of q.seen x) (map its_mark some)) (within r (or_left (same r.name r.name) _ (same-refl r.name)))
        ∙ ap (λ b. b || list_any (is_new_share_of q.seen x) (map its_mark some)) (and_false (is_share_of x (its_mark r)))
        ∙ old_shares x some (λ t i. within t (or_right (same r.name t.name) _ i))
      where
        and_false : (b : Bool) → (b && false) ≡ false
        and_false true = refl
        and_false false = refl

    among_seen : (some : List Record) (r : Record) → list_any (λ (t : Record). same t.name r.name) some ≡ true → is_there some r.name ≡ true
    among_seen [] r e = e
    among_seen (t ∷ some) r e = ⊎_elim
        (λ (h : same t.name r.name ≡ true). or_left (same r.name t.name) _ (subst (λ y. same r.name y ≡ true) (sym (same-true t.name r.name h)) (same-refl r.name)))
        (λ (h : list_any (λ (s : Record). same s.name r.name) some ≡ true). or_right (same r.name t.name) _ (among_seen some r h))
        (or_cases (same t.name r.name) _ e)

    unput : (x : List ℕ) → is_put q x ≡ false
    unput x = ap (λ ps. list_any (λ (p : NamedOp). same x p.name) ps || list_any (is_new_share_of q.seen x) (working q)) no_puts_here
        ∙ ap (list_any (is_new_share_of q.seen x)) working_is ∙ old_shares x q.seen (among_seen q.seen)

    after_is_map : after_puts q ≡ map (after_leaving q) q.rows
    after_is_map = ap (λ some. map (after_leaving q) (fold with_record q.rows some)) (none_passes (λ (r : Record). is_put q r.name) (working q) (λ r. unput r.name))

    removed_none : removed q ≡ []
    removed_none = ap (removed_names (after_puts q)) (untaken_by (names_deleted q.ops) (λ x e. unseen_all q.ops x quiet e)) ∙ reached_none (after_puts q) (length (after_puts q))

    unleft_by : (d : Bool) (r : Record) → is_in (names_deleted q.ops) r.name ≡ d → (is_shared q.caller.scope && (d && (is_share r && is_there q.seen r.name))) ≡ false
    unleft_by true r e = ap (λ b. is_shared q.caller.scope && (is_share r && b)) (unseen_all q.ops r.name quiet e) ∙ both_false (is_shared q.caller.scope) (is_share r)
      where
        both_false : (a b : Bool) → (a && (b && false)) ≡ false
        both_false true true = refl
        both_false true false = refl
        both_false false b = refl
    unleft_by false r e = one_false (is_shared q.caller.scope)
      where
        one_false : (a : Bool) → (a && false) ≡ false
        one_false true = refl
        one_false false = refl

    unmarked_none : (r : Record) → is_unmarked q [] r ≡ false
    unmarked_none r = none_any (λ (s : Record). is_share_of r.name s && is_in [] s.name) (after_puts q) (λ s. and_false (is_share_of r.name s))
      where
        and_false : (b : Bool) → (b && false) ≡ false
        and_false true = refl
        and_false false = refl

    unwritten : (r : Record) → write_of q [] r ≡ None
    unwritten r = ap (λ b. write_by q [] false b r) ((λ i. unput r.name i || (unleft_by (is_in (names_deleted q.ops) r.name) r refl i || unmarked_none r i)))

    all_unwritten : (rows : List Record) → filter_map (write_of q []) rows ≡ []
    all_unwritten [] = refl
    all_unwritten (r ∷ rows) = ap (λ o. cons_option o (filter_map (write_of q []) rows)) (unwritten r) ∙ all_unwritten rows

    pub nothing_written : writes q (removed q) ≡ []
    nothing_written = ap (writes q) removed_none ∙ all_unwritten (after_puts q)

-- ---- at a log

one_commit : (q : Request) (ws : List Write) → is_empty (commits_with q ws) ≡ is_empty ws
one_commit q [] = refl
one_commit q (w ∷ ws) = refl

refused_none : (q : Request) (ops : List NamedOp) (faults : List (Option OpFault)) → list_all is_some faults ≡ true → list_any (has_written q.seen) (map (outcome_of q) (zip ops faults)) ≡ false
refused_none q [] faults all = refl
refused_none q (op ∷ ops) [] all = refl
refused_none q (op ∷ ops) (None ∷ faults) all = absurd (both_ways false refl all)
refused_none q (op ∷ ops) (Some fault ∷ faults) all = refused_none q ops faults all

pub all_through : (q : Request) (ops : List NamedOp) (faults : List (Option OpFault)) → length faults ≡ length ops → has_fault faults ≡ false → map (outcome_of q) (zip ops faults) ≡ map (done q) ops
all_through q [] faults len none = refl
all_through q (op ∷ ops) [] len none = absurd (omega (arith, len))
all_through q (op ∷ ops) (None ∷ faults) len none = ap (λ os. done q op ∷ os) (all_through q ops faults (omega (arith, len)) none)
all_through q (op ∷ ops) (Some fault ∷ faults) len none = absurd (both_ways true none refl)

module _ (caller : Caller) (moment : ℕ) (log : List Commit) (ops : List NamedOp)
    (lawful : are_lawful [] log ≡ true) (there : (zone_at log caller.key).there ≡ true) (roots : has_twice (roots_in ops) ≡ false) where
  abbrev its_request : Request
  its_request = request_at caller moment log ops

  abbrev its_pasts : List Past
  its_pasts = name_history log caller.key ops

  abbrev its_writes : List Write
  its_writes = writes its_request (removed its_request)

  abbrev offers : List NamedOp → List ℕ → Bool
  offers ps x = list_any (λ (t : NamedOp). same x t.name) ps

  module _ (judged : has_fault (judgement_at caller moment log ops) ≡ false) where
    fine : IsFine its_request its_pasts
    fine = is_fine caller moment log ops lawful there roots judged

    -- what an operation that is done tells

    put_told : (op : NamedOp) (o : Option Record) → record_at (working its_request) op.name ≡ o → offers (puts_in ops) op.name ≡ true
        → has_written its_request.seen (option_map_or (λ r. Answered (stamped its_request r)) o (Deleted op.name)) ≡ false → ⊥
    put_told op (Some r) is offered e = both_ways true e refl
    put_told op None is offered e = let p = found_put (puts_in ops) op.name offered in put_stays its_request its_pasts fine op.name p.0 p.1 is

    quiet_by : (d : Bool) (op : NamedOp) → is_deletion op.kind ≡ d → (d ≡ false → offers (puts_in ops) op.name ≡ true)
        → has_written its_request.seen (option_map_or (λ r. Answered (stamped its_request r)) (if d then None else (record_at (working its_request) op.name)) (Deleted op.name)) ≡ false
        → IsQuiet its_request its_pasts fine op
    quiet_by true op is offered e = record { deletes = is; unseen = e }
    quiet_by false op is offered e = absurd (put_told op (record_at (working its_request) op.name) refl (offered refl) e)

    quiet_step : (d : Bool) (op : NamedOp) (some : List NamedOp) → is_deletion op.kind ≡ d
        → ((x : List ℕ) → offers (if not d then op ∷ puts_in some else puts_in some) x ≡ true → offers (puts_in ops) x ≡ true)
        → (((x : List ℕ) → offers (puts_in some) x ≡ true → offers (puts_in ops) x ≡ true) → AllByRecursion (IsQuiet its_request its_pasts fine) some)
        → has_written its_request.seen (done its_request op) ≡ false → AllByRecursion (IsQuiet its_request its_pasts fine) (op ∷ some)
    quiet_step true op some is offered rest e =
        (quiet_by true op is (λ f. absurd (both_ways true f refl)) (ap (λ b. has_written its_request.seen (option_map_or (λ r. Answered (stamped its_request r)) (if b then None else (record_at (working its_request) op.name)) (Deleted op.name))) (sym is) ∙ e), rest offered)
    quiet_step false op some is offered rest e = (
      quiet_by false op is (λ f. offered op.name (or_left (same op.name op.name) _ (same-refl op.name)))
          (ap (λ b. has_written its_request.seen (option_map_or (λ r. Answered (stamped its_request r)) (if b then None else (record_at (working its_request) op.name)) (Deleted op.name))) (sym is) ∙ e),
      rest (λ x i. offered x (or_right (same x op.name) _ i)),
    )

    all_quiet : (some : List NamedOp) → ((x : List ℕ) → offers (puts_in some) x ≡ true → offers (puts_in ops) x ≡ true)
        → list_any (has_written its_request.seen) (map (done its_request) some) ≡ false → AllByRecursion (IsQuiet its_request its_pasts fine) some
    all_quiet [] offered e = tt
    all_quiet (op ∷ some) offered e =
        let parts = or_parts (has_written its_request.seen (done its_request op)) _ e in
        quiet_step (is_deletion op.kind) op some refl offered (λ within. all_quiet some within parts.1) parts.0

    -- what tells of something written

    wrote_by : (d : Bool) (op : NamedOp) (o : Option Record) → record_at (working its_request) op.name ≡ o → (d ≡ false → offers (puts_in ops) op.name ≡ true)
        → (d ≡ true → is_in (names_deleted ops) op.name ≡ true)
        → has_written its_request.seen (option_map_or (λ r. Answered (stamped its_request r)) (if d then None else o) (Deleted op.name)) ≡ true → is_empty its_writes ≡ false
    wrote_by true op o is offered deleted e = deleted_written its_request its_pasts fine op.name (deleted refl) e
    wrote_by false op (Some r) is offered deleted e = let p = found_put (puts_in ops) op.name (offered refl) in put_written its_request its_pasts fine op.name p.0 r p.1 is
    wrote_by false op None is offered deleted e = let p = found_put (puts_in ops) op.name (offered refl) in absurd (put_stays its_request its_pasts fine op.name p.0 p.1 is)

    abbrev deletes : List NamedOp → List ℕ → Bool
    deletes some x = is_in (names_deleted some) x

    wrote_step : (d : Bool) (op : NamedOp) (some : List NamedOp) → is_deletion op.kind ≡ d
        → ((x : List ℕ) → offers (if not d then op ∷ puts_in some else puts_in some) x ≡ true → offers (puts_in ops) x ≡ true)
        → ((x : List ℕ) → is_in (map (λ (o : NamedOp). o.name) (cond d (op ∷ filter (λ (o : NamedOp). is_deletion o.kind) some) (filter (λ (o : NamedOp). is_deletion o.kind) some))) x ≡ true → deletes ops x ≡ true)
        → (((x : List ℕ) → offers (puts_in some) x ≡ true → offers (puts_in ops) x ≡ true) → ((x : List ℕ) → deletes some x ≡ true → deletes ops x ≡ true)
        → list_any (has_written its_request.seen) (map (done its_request) some) ≡ true → is_empty its_writes ≡ false)
        → list_any (has_written its_request.seen) (map (done its_request) (op ∷ some)) ≡ true → is_empty its_writes ≡ false
    wrote_step true op some is offered deleted rest e = ⊎_elim
        (λ (h : has_written its_request.seen (done its_request op) ≡ true).
        wrote_by true op (record_at (working its_request) op.name) refl (λ f. absurd (both_ways true f refl)) (λ _. deleted op.name (or_left (same op.name op.name) _ (same-refl op.name)))
        (ap (λ b. has_written its_request.seen (option_map_or (λ r. Answered (stamped its_request r)) (if b then None else (record_at (working its_request) op.name)) (Deleted op.name))) (sym is) ∙ h))
        (λ (h : list_any (has_written its_request.seen) (map (done its_request) some) ≡ true). rest offered (λ x i. deleted x (or_right (same x op.name) _ i)) h)
        (or_cases (has_written its_request.seen (done its_request op)) _ e)
    wrote_step false op some is offered deleted rest e = ⊎_elim
        (λ (h : has_written its_request.seen (done its_request op) ≡ true).
        wrote_by false op (record_at (working its_request) op.name) refl (λ _. offered op.name (or_left (same op.name op.name) _ (same-refl op.name))) (λ f. absurd (both_ways false refl f))
        (ap (λ b. has_written its_request.seen (option_map_or (λ r. Answered (stamped its_request r)) (if b then None else (record_at (working its_request) op.name)) (Deleted op.name))) (sym is) ∙ h))
        (λ (h : list_any (has_written its_request.seen) (map (done its_request) some) ≡ true). rest (λ x i. offered x (or_right (same x op.name) _ i)) deleted h)
        (or_cases (has_written its_request.seen (done its_request op)) _ e)

    some_wrote : (some : List NamedOp) → ((x : List ℕ) → offers (puts_in some) x ≡ true → offers (puts_in ops) x ≡ true) → ((x : List ℕ) → deletes some x ≡ true → deletes ops x ≡ true)
        → list_any (has_written its_request.seen) (map (done its_request) some) ≡ true → is_empty its_writes ≡ false
    some_wrote [] offered deleted e = absurd (both_ways false refl e)
    some_wrote (op ∷ some) offered deleted e = wrote_step (is_deletion op.kind) op some refl offered deleted (λ within gone more. some_wrote some within gone more) e

    either : (b : Bool) → list_any (has_written its_request.seen) (map (done its_request) ops) ≡ b → not (is_empty its_writes) ≡ b
    either true e = ap not (some_wrote ops (λ x i. i) (λ x i. i) e)
    either false e = ap (λ (ws : List Write). not (is_empty ws)) (nothing_written its_request its_pasts fine (all_quiet ops (λ x i. i) e))

  made_by : (b : Bool) → has_fault (judgement_at caller moment log ops) ≡ b
      → not (is_empty (if b then [] else effect its_request)) ≡ list_any (has_written its_request.seen) (modified_as_one caller moment log ops).outcomes
  made_by true judged = sym (refused_none its_request ops (judgement_at caller moment log ops)
      (all-refused (faults_of (grounds_of caller its_pasts (view_of log caller.user caller.scope caller.key).rows ops) ops) judged))
  made_by false judged =
      ap not (one_commit its_request its_writes)
      ∙ either judged (list_any (has_written its_request.seen) (map (done its_request) ops)) refl
      ∙ ap (list_any (has_written its_request.seen)) (sym (all_through its_request ops (judgement_at caller moment log ops) (all_judged (view_of log caller.user caller.scope caller.key) its_pasts ops caller) judged))

pub made_where_written : MadeWhereWritten
made_where_written caller moment log ops lawful there roots = made_by caller moment log ops (in_turn_back [] log lawful) there roots (has_fault (judgement_at caller moment log ops)) refl
