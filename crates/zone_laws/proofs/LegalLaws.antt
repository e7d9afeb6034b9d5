-- Histories that stay legal.
use Rattle.std.proofs.Common.{◌≡◌, ℕ, List, [], ◌∷◌, ◌++◌, true, refl, sym, ap, ◌∙◌, subst, length, append-nil, append_assoc}
use Rattle.std.specs.Prelude.{nat_lt, nat_le}
use Rattle.std.proofs.lemmas.Grind.{flat_map-append}
use Rattle.std.proofs.lemmas.Bool.{and_from, and_parts}
use Rattle.zone_model.specs.declared.events.Event.{Event}
use Rattle.zone_model.specs.declared.events.Event.TheVariants.{Made, StoreFailed}
use Rattle.zone_model.specs.Events.{commits_of, log_of}
use Rattle.std.specs.List.{AllByRecursion}
use Rattle.zone_model.specs.Form.{IsInForm}
use Rattle.zone_laws.specs.LawfulTests.{are_lawful, each_passes, are_of_lock, is_allowed, is_legal_event, is_legal}
use Rattle.zone_laws.specs.Laws.{HistoriesStayLegal}
use Rattle.zone_laws.proofs.LawfulLaws.{lawful-append}
use Rattle.zone_laws.proofs.FormLaws.{every-append}
use Rattle.zone_laws.proofs.TestLaws.{in_turn_so, event_formed, event_back, history_formed, history_so, history_back}

passes-snoc : (lock : ℕ) (es before : List Event) (e : Event) → each_passes (is_legal_event lock) before es ≡ true → is_legal_event lock (before ++ es) e ≡ true → each_passes (is_legal_event lock) before (es ++ e ∷ []) ≡ true
passes-snoc lock [] before e all one = and_from (is_legal_event lock before e) true (subst (λ b. is_legal_event lock b e ≡ true) (append-nil before) one) refl
passes-snoc lock (x ∷ es) before e all one =
    let h = and_parts (is_legal_event lock before x) _ all in
    and_from (is_legal_event lock before x) _ h.0
    (passes-snoc lock es (before ++ x ∷ []) e h.1 (subst (λ b. is_legal_event lock b e ≡ true) (sym (append_assoc before (x ∷ []) es)) one))

-- one legal event more
pub legal-snoc : (lock : ℕ) (es : List Event) (e : Event) → is_legal lock es ≡ true → is_legal_event lock es e ≡ true → is_legal lock (es ++ e ∷ []) ≡ true
legal-snoc lock es e all one = passes-snoc lock es [] e all one

-- the commits of an event that may follow are lawful
lawful_one : (lock : ℕ) (before : List Event) (e : Event) → are_lawful [] (log_of before) ≡ true → is_allowed lock before e ≡ true → are_lawful [] (log_of before ++ commits_of e) ≡ true
lawful_one lock before (Made origin cs) lawful allowed =
    let b = and_parts (nat_lt 0 (length cs)) _ allowed in
    let c = and_parts (nat_le (length cs) 200) _ b.1 in
    let d = and_parts (are_of_lock lock cs) _ c.1 in
    lawful-append [] (log_of before) cs lawful d.1
lawful_one lock before (StoreFailed origin from to) lawful allowed = subst (λ l. are_lawful [] l ≡ true) (sym (append-nil (log_of before))) lawful

lawful_on : (lock : ℕ) (before es : List Event) → are_lawful [] (log_of before) ≡ true → each_passes (is_legal_event lock) before es ≡ true → are_lawful [] (log_of (before ++ es)) ≡ true
lawful_on lock before [] lawful all = subst (λ b. are_lawful [] (log_of b) ≡ true) (sym (append-nil before)) lawful
lawful_on lock before (e ∷ es) lawful all =
    let h = and_parts (is_legal_event lock before e) _ all in
    let a = and_parts _ (is_allowed lock before e) h.0 in
    let log : log_of before ++ commits_of e ≡ log_of (before ++ e ∷ []) = sym (flat_map-append commits_of before (e ∷ []) ∙ ap (λ cs. log_of before ++ cs) (append-nil (commits_of e))) in
    subst (λ b. are_lawful [] (log_of b) ≡ true) (append_assoc before (e ∷ []) es)
    (lawful_on lock (before ++ e ∷ []) es (subst (λ l. are_lawful [] l ≡ true) log (lawful_one lock before e lawful a.1)) h.1)

-- the commits of one event more
log-snoc : (es : List Event) (e : Event) → log_of es ++ commits_of e ≡ log_of (es ++ e ∷ [])
log-snoc es e = sym (flat_map-append commits_of es (e ∷ []) ∙ ap (λ cs. log_of es ++ cs) (append-nil (commits_of e)))

pub histories_legal : HistoriesStayLegal
histories_legal = record {
  grows = λ lock es e legal one. history_so lock (es ++ e ∷ []) (legal-snoc lock es e (history_back lock es legal) (event_back lock es e one))
      (subst (AllByRecursion IsInForm) (log-snoc es e) (every-append IsInForm (log_of es) (commits_of e) (history_formed lock es legal) (event_formed lock es e one)));
  lawful = λ lock es legal. in_turn_so [] (log_of es) (lawful_on lock [] es refl (history_back lock es legal));
  formed = history_formed;
}
