-- Creations, one after another.
use Rattle.std.proofs.Common.{refl, ◌≡◌, ℕ, suc, ◌+◌, ◌<◌, ◌≤◌, List, [], ◌∷◌, ◌++◌, true, length, drop, sym, ap, ◌∙◌, subst, append-nil, append_assoc, add-one, drop-cons, get_or, arith}
use Rattle.std.specs.List.{list_all, AllByRecursion}
use Rattle.std.proofs.lemmas.Bool.{and_parts}
use Rattle.std.proofs.lemmas.List.{length-drop, drop-drop}
use Rattle.std.proofs.lemmas.List.Sums.{sum_by-cons}
use Rattle.zone_model.specs.declared.operations.Op.{Op}
use Rattle.zone_model.specs.declared.commits.Commit.{Commit}
use Rattle.zone_model.specs.declared.outcomes.Outcome.{Outcome}
use Rattle.zone_model.specs.declared.outcomes.Modified.{Modified}
use Rattle.ck_base.specs.Names.{lock_of_names}
use Rattle.zone_model.specs.Requests.{NamedOp}
use Rattle.plain_creates.specs.OnePuts.{IsOnePut}
use Rattle.plain_creates.specs.PlainCreates.{is_plain_create}
use Rattle.drawn_names.specs.Drawing.{words_for, words_drawn, words_after, drawn_name, named_by}
use Rattle.zone_model.specs.OpForms.{IsMeantWhere, IsMeantOp}
use Rattle.record_model.specs.DraftForms.{IsMeantDraft}
use Rattle.board_model.specs.Asks.{ops_at}
use Rattle.zone_board.specs.declared.create.Asking.{Asking}
use Rattle.zone_board.specs.Kept.{IsCreation}
use Rattle.zone_board.specs.Askings.{with_name, one_done, all_done}
use Rattle.zone_board.proofs.PlainLemmas.{all_joined, all_weaker, no_deletion, no_guid}

-- what was made and answered so far, with what comes of the operations and words that are left, is what comes of all
pub record IsUnderWay (asking : Asking) (log : List Commit) (ops left : List Op) (words rest : List (List ℕ)) (commits : List Commit) (outcomes : List Outcome) : Type 0 where
  pub made : commits ++ (all_done asking (log ++ commits) (ops_at asking.key.now left rest)).commits ≡ (all_done asking log (ops_at asking.key.now ops words)).commits
  pub told : outcomes ++ (all_done asking (log ++ commits) (ops_at asking.key.now left rest)).outcomes ≡ (all_done asking log (ops_at asking.key.now ops words)).outcomes
  pub formed : AllByRecursion (IsCreation asking.key.now) commits
  pub plain : list_all is_plain_create left ≡ true
  pub meant : AllByRecursion IsMeantOp left
  pub enough : length rest ≡ words_drawn left

pub under_way : (asking : Asking) (log : List Commit) (ops : List Op) (words : List (List ℕ)) → list_all is_plain_create ops ≡ true → AllByRecursion IsMeantOp ops → length words ≡ words_drawn ops
    → IsUnderWay asking log ops ops words words [] []
under_way asking log ops words plain meant enough = record {
  made = ap (λ l. (all_done asking l (ops_at asking.key.now ops words)).commits) (append-nil log);
  told = ap (λ l. (all_done asking l (ops_at asking.key.now ops words)).outcomes) (append-nil log);
  formed = tt;
  plain = plain;
  meant = meant;
  enough = enough;
}

-- the log stays one of commits that put one record each
pub ones_more : (asking : Asking) (log commits : List Commit) → AllByRecursion IsOnePut log → AllByRecursion (IsCreation asking.key.now) commits → AllByRecursion IsOnePut (log ++ commits)
ones_more asking log commits ones formed = all_joined IsOnePut log commits ones (all_weaker (IsCreation asking.key.now) IsOnePut commits (λ c is. is.one) formed)

-- what comes of one operation and then of others
first_done : (asking : Asking) (log : List Commit) (op : NamedOp) (ops : List NamedOp)
    → all_done asking log (op ∷ ops)
    ≡ record {
      outcomes = (one_done asking log op).outcomes ++ (all_done asking (log ++ (one_done asking log op).commits) ops).outcomes;
      commits = (one_done asking log op).commits ++ (all_done asking (log ++ (one_done asking log op).commits) ops).commits;
    }
unfolding one_done all_done
first_done asking log op ops = refl

-- an operation that draws no GUID is the one with its name
named_as : (lock : ℕ) (op : Op) (rest : List (List ℕ)) (name : List ℕ) → is_plain_create op ≡ true → name ≡ drawn_name op rest → with_name op name ≡ named_by lock (op, rest)
named_as lock op rest name plain named i = record { kind = op.kind; draft = op.draft; name = named i; guid = sym (no_guid lock op rest plain) i }

words_more : (n : ℕ) (ws : List (List ℕ)) (m : ℕ) → length ws ≡ n + m → length (drop n ws) ≡ m
words_more n ws m e = omega (arith, e, length-drop n ws)

module _ (asking : Asking) (log : List Commit) (ops : List Op) (op : Op) (left : List Op) (words rest : List (List ℕ)) (commits : List Commit) (outcomes : List Outcome)
    (way : IsUnderWay asking log ops (op ∷ left) words rest commits outcomes) where
  abbrev named_op : NamedOp
  named_op = named_by (lock_of_names asking.key.now.owner asking.key.now.zone) (op, rest)

  abbrev its_log : List Commit
  its_log = log ++ commits

  abbrev its_done : Modified
  its_done = one_done asking its_log named_op

  abbrev later : List NamedOp
  later = ops_at asking.key.now left (words_after op rest)

  done_more : AllByRecursion (IsCreation asking.key.now) its_done.commits
      → IsUnderWay asking log ops left words (words_after op rest) (commits ++ its_done.commits) (outcomes ++ its_done.outcomes)
  done_more formed =
      let plain = and_parts (is_plain_create op) _ way.plain in
      record {
        made = append_assoc commits its_done.commits (all_done asking (log ++ (commits ++ its_done.commits)) later).commits
            ∙ ap (λ l. commits ++ (its_done.commits ++ (all_done asking l later).commits)) (sym (append_assoc log commits its_done.commits))
            ∙ ap (λ (m : Modified). commits ++ m.commits) (sym (first_done asking its_log named_op later))
            ∙ way.made;
        told = append_assoc outcomes its_done.outcomes (all_done asking (log ++ (commits ++ its_done.commits)) later).outcomes
            ∙ ap (λ l. outcomes ++ (its_done.outcomes ++ (all_done asking l later).outcomes)) (sym (append_assoc log commits its_done.commits))
            ∙ ap (λ (m : Modified). outcomes ++ m.outcomes) (sym (first_done asking its_log named_op later))
            ∙ way.told;
        formed = all_joined (IsCreation asking.key.now) commits its_done.commits way.formed formed;
        plain = plain.1;
        meant = way.meant.1;
        enough = words_more (words_for op) rest (words_drawn left) (way.enough ∙ sum_by-cons words_for op left);
      }

  -- one operation more, with its name
  pub one_more : (name : List ℕ) (outcome : Outcome) (made : List Commit) (told : List Outcome) → name ≡ drawn_name op rest
      → (one_done asking its_log (with_name op name)).outcomes ≡ outcome ∷ []
      → made ≡ commits ++ (one_done asking its_log (with_name op name)).commits
      → AllByRecursion (IsCreation asking.key.now) (one_done asking its_log (with_name op name)).commits
      → told ≡ outcomes ++ outcome ∷ []
      → IsUnderWay asking log ops left words (words_after op rest) made told
  one_more name outcome made told named_is outcome_is made_is formed told_is =
      let named : with_name op name ≡ named_op = named_as (lock_of_names asking.key.now.owner asking.key.now.zone) op rest name (and_parts (is_plain_create op) _ way.plain).0 named_is in
      let formed_named = subst (λ n. AllByRecursion (IsCreation asking.key.now) (one_done asking its_log n).commits) named formed in
      let made_named = made_is ∙ ap (λ n. commits ++ (one_done asking its_log n).commits) named in
      let told_named = told_is ∙ ap (λ os. outcomes ++ os) (sym outcome_is ∙ ap (λ n. (one_done asking its_log n).outcomes) named) in
      subst (λ cs. IsUnderWay asking log ops left words (words_after op rest) cs told) (sym made_named)
      (subst (λ os. IsUnderWay asking log ops left words (words_after op rest) (commits ++ its_done.commits) os) (sym told_named) (done_more formed_named))

drawn_within : (drawn n m : ℕ) (ws : List (List ℕ)) → length (drop drawn ws) ≡ n + m → drawn ≤ length ws → drawn + n ≤ length ws
drawn_within drawn n m ws e within = omega (arith, e, within, length-drop drawn ws)

-- what some JSON means as a create's draft
pub draft_meant : (asking : Asking) (log : List Commit) (ops : List Op) (i : ℕ) (op : Op) (words rest : List (List ℕ)) (commits : List Commit) (outcomes : List Outcome)
    → IsUnderWay asking log ops (drop i ops) words rest commits outcomes → i < length ops → op ≡ get_or ops i op → IsMeantDraft op.draft
draft_meant asking log ops i op words rest commits outcomes way lt is =
    let front : drop i ops ≡ op ∷ drop (suc i) ops = drop-cons ops i op lt ∙ ap (λ o. o ∷ drop (suc i) ops) (sym is) in
    let at = subst (λ left. IsUnderWay asking log ops left words rest commits outcomes) front way in
    subst (λ b. IsMeantWhere b op.draft) (no_deletion op.kind op.draft (and_parts (is_plain_create op) _ at.plain).0) at.meant.0.draft

-- one turn of the loop
pub step : (asking : Asking) (log : List Commit) (ops : List Op) (i : ℕ) (op : Op) (words : List (List ℕ)) (drawn n : ℕ) (commits made : List Commit) (outcomes told : List Outcome) (name : List ℕ) (outcome : Outcome)
    → IsUnderWay asking log ops (drop i ops) words (drop drawn words) commits outcomes → drawn ≤ length words → i < length ops → op ≡ get_or ops i op → n ≡ words_for op
    → name ≡ drawn_name op (drop drawn words)
    → (one_done asking (log ++ commits) (with_name op name)).outcomes ≡ outcome ∷ []
    → made ≡ commits ++ (one_done asking (log ++ commits) (with_name op name)).commits
    → AllByRecursion (IsCreation asking.key.now) (one_done asking (log ++ commits) (with_name op name)).commits
    → told ≡ outcomes ++ outcome ∷ []
    → IsUnderWay asking log ops (drop (i + 1) ops) words (drop (drawn + n) words) made told × (drawn + n ≤ length words)
step asking log ops i op words drawn n commits made outcomes told name outcome way within lt is n_is named outcome_is made_is formed told_is =
    let front : drop i ops ≡ op ∷ drop (i + 1) ops = rw add-one (drop-cons ops i op lt ∙ ap (λ o. o ∷ drop (suc i) ops) (sym is)) in
    let at = subst (λ left. IsUnderWay asking log ops left words (drop drawn words) commits outcomes) front way in
    let rest : words_after op (drop drawn words) ≡ drop (drawn + n) words = ap (λ k. drop k (drop drawn words)) (sym n_is) ∙ drop-drop n drawn words in
    let enough : length (drop drawn words) ≡ n + words_drawn (drop (i + 1) ops) = at.enough ∙ sum_by-cons words_for op (drop (i + 1) ops) ∙ ap (λ k. k + words_drawn (drop (i + 1) ops)) (sym n_is) in (
      subst (λ ws. IsUnderWay asking log ops (drop (i + 1) ops) words ws made told) rest
          (one_more asking log ops op (drop (i + 1) ops) words (drop drawn words) commits outcomes at name outcome made told named outcome_is made_is formed told_is),
      drawn_within drawn n (words_drawn (drop (i + 1) ops)) words enough within,
    )

-- nothing is left
pub all_made : (asking : Asking) (log : List Commit) (ops : List Op) (words rest : List (List ℕ)) (commits : List Commit) (outcomes : List Outcome) (left : List Op) → left ≡ []
    → IsUnderWay asking log ops left words rest commits outcomes
    → (commits ≡ (all_done asking log (ops_at asking.key.now ops words)).commits) × (outcomes ≡ (all_done asking log (ops_at asking.key.now ops words)).outcomes)
unfolding all_done
all_made asking log ops words rest commits outcomes [] e way = (sym (append-nil commits) ∙ way.made, sym (append-nil outcomes) ∙ way.told)
all_made asking log ops words rest commits outcomes (op ∷ left) e way = absurd (not_nil op left e)
  where
    not_nil : (o : Op) (os : List Op) → o ∷ os ≡ [] → ⊥
    not_nil o os q = let l : suc (length os) ≡ 0 = ap length q in omega (arith, l)
