-- One more mark at the end.
use Rattle.std.proofs.Common.{◌≡◌, ℕ, suc, ◌+◌, ◌≤◌, ◌==◌, Bool, true, false, List, [], ◌∷◌, ◌++◌, length, map, refl, sym, ap, subst, ◌∙◌, arith, append_assoc}
use Rattle.std.proofs.lemmas.List.{append-nil, map-append}
use Rattle.std.specs.Prelude.{filter, zip, if◌then◌else◌}
use Rattle.std.proofs.lemmas.List.Elements.{filter-append}
use Rattle.std.specs.List.{AllByRecursion, AllZip, concat}
use Rattle.zone_model.specs.declared.events.Event.{Event}
use Rattle.zone_model.specs.Histories.{Histories}
use Rattle.board_model.specs.Turns.{BoardState}
use Rattle.talk_model.specs.declared.marks.At.{At}
use Rattle.talk_model.specs.declared.marks.Mark.{Mark}
use Rattle.talk_model.specs.Requests.{Meaning}
use Rattle.talk_model.specs.Given.{given_of}
use Rattle.talk_model.specs.Calls.{Step, asks, replies, step_for, text_at}
use Rattle.talk_model.specs.Marks.{answer_at, AreAtsOf, step_behind, IsWholeMarkOf, AreMarksOf, asks_in, NotBefore, AreInOrder}
use Rattle.talk_model.specs.Talk.{talk}
use Rattle.talk_model.proofs.GrowthLemmas.{marked, marked_by, marked-cons, lengths_at}

pub all-snoc : {X : Type 0} (P : X → Type 0) (xs : List X) (x : X) → AllByRecursion P xs → P x → AllByRecursion P (xs ++ x ∷ [])
all-snoc P [] x all p = (p, tt)
all-snoc P (y ∷ ys) x all p = (all.0, all-snoc P ys x all.1 p)

all-append : {X : Type 0} (P : X → Type 0) (xs ys : List X) → AllByRecursion P xs → AllByRecursion P ys → AllByRecursion P (xs ++ ys)
all-append P [] ys p q = q
all-append P (x ∷ xs) ys p q = (p.0, all-append P xs ys p.1 q)

pub all-map : {X : Type 0} (P Q : X → Type 0) → ((x : X) → P x → Q x) → (xs : List X) → AllByRecursion P xs → AllByRecursion Q xs
all-map P Q f [] all = tt
all-map P Q f (x ∷ xs) all = (f x all.0, all-map P Q f xs all.1)

pub zip-snoc : {A B : Type 0} (R : A → B → Type 0) (xs : List A) (ys : List B) (x : A) (y : B) → AllZip R xs ys → R x y → AllZip R (xs ++ x ∷ []) (ys ++ y ∷ [])
zip-snoc R [] [] x y all r = (r, tt)
zip-snoc R [] (b ∷ ys) x y all r = absurd all
zip-snoc R (a ∷ xs) [] x y all r = absurd all
zip-snoc R (a ∷ xs) (b ∷ ys) x y all r = (all.0, zip-snoc R xs ys x y all.1 r)

pub concat-snoc : (xs : List (List ℕ)) (x : List ℕ) → concat (xs ++ x ∷ []) ≡ concat xs ++ x
concat-snoc [] x = append-nil x
concat-snoc (y ∷ ys) x = ap (λ b. y ++ b) (concat-snoc ys x) ∙ sym (append_assoc y (concat ys) x)

pub asks_in-snoc : (marks : List Mark) (m : Mark) → asks_in (marks ++ m ∷ []) ≡ asks_in marks ++ m.asks.items
asks_in-snoc [] m = append-nil m.asks.items
asks_in-snoc (a ∷ marks) m = ap (λ b. a.asks.items ++ b) (asks_in-snoc marks m) ∙ sym (append_assoc a.asks.items (asks_in marks) m.asks.items)

pub givens-snoc : (marks : List Mark) (m : Mark) → map given_of (marks ++ m ∷ []) ≡ map given_of marks ++ given_of m ∷ []
givens-snoc [] m = refl
givens-snoc (a ∷ marks) m = ap (λ b. given_of a ∷ b) (givens-snoc marks m)

-- what was given for each request
pub asked-snoc : (ws : List Meaning) (marks : List Mark) (w : Meaning) (m : Mark) → length marks ≡ length ws
    → zip (ws ++ w ∷ []) (map given_of (marks ++ m ∷ [])) ≡ zip ws (map given_of marks) ++ (w, given_of m) ∷ []
asked-snoc [] [] w m e = refl
asked-snoc [] (a ∷ marks) w m e = absurd (omega (arith, e))
asked-snoc (v ∷ ws) [] w m e = absurd (omega (arith, e))
asked-snoc (v ∷ ws) (a ∷ marks) w m e = ap (λ l. (v, given_of a) ∷ l) (asked-snoc ws marks w m (omega (arith, e)))

pub order-snoc : (ats : List At) (at : At) → AreInOrder ats → AllByRecursion (λ a. NotBefore a at) ats → AreInOrder (ats ++ at ∷ [])
order-snoc [] at ordered all = (tt, tt)
order-snoc (a ∷ ats) at ordered all = (all-snoc (NotBefore a) ats at ordered.0 all.0, order-snoc ats at ordered.1 all.1)

pub marked-snoc : (lock : ℕ) (h : Histories Event) (ats : List At) (at : At) → marked lock h (ats ++ at ∷ []) ≡ marked lock h ats ++ marked_by lock h at
marked-snoc lock h [] at = marked-cons lock h at [] ∙ append-nil (marked_by lock h at)
marked-snoc lock h (a ∷ ats) at =
    marked-cons lock h a (ats ++ at ∷ [])
    ∙ (ap (λ l. marked_by lock h a ++ l) (marked-snoc lock h ats at) ∙ (sym (append_assoc (marked_by lock h a) (marked lock h ats) (marked_by lock h at))
    ∙ ap (λ l. l ++ marked_by lock h at) (sym (marked-cons lock h a ats))))

-- one more ask of a lock, or of another
pub lengths_at-snoc : (lock : ℕ) (ats : List At) (at : At) → lengths_at lock (ats ++ at ∷ []) ≡ lengths_at lock ats ++ (if at.lock == lock then at.len ∷ [] else [])
lengths_at-snoc lock ats at =
    ap (map (λ (a : At). a.len)) (filter-append (λ (a : At). a.lock == lock) ats (at ∷ []))
    ∙ (map-append (λ (a : At). a.len) (filter (λ (a : At). a.lock == lock) ats) (filter (λ (a : At). a.lock == lock) (at ∷ [])) ∙ ap (λ l. lengths_at lock ats ++ l) (by_lock (at.lock == lock) refl))
  where
    by_lock : (b : Bool) → (at.lock == lock) ≡ b → map (λ (a : At). a.len) (filter (λ (a : At). a.lock == lock) (at ∷ [])) ≡ (if at.lock == lock then at.len ∷ [] else [])
    by_lock true is = rw is refl
    by_lock false is = rw is refl

-- the reply to a request with this mark
abbrev pub reply_at : Histories Event → Mark → Meaning → List ℕ
reply_at h m w = text_at w.close (step_behind h m w)

module _ (entry b : BoardState) where
  pub marks-snoc : (number last : ℕ) (marks : List Mark) (ws : List Meaning) (m : Mark) (w : Meaning) → last ≡ number + length marks
      → AreMarksOf number entry b marks ws → IsWholeMarkOf entry b (last, m) w → AreMarksOf number entry b (marks ++ m ∷ []) (ws ++ w ∷ [])
  marks-snoc number last [] [] m w e k p = let same : last ≡ number = omega arith in (subst (λ (n : ℕ). IsWholeMarkOf entry b (n, m) w) same p, tt)
  marks-snoc number last [] (v ∷ ws) m w e k p = absurd k
  marks-snoc number last (a ∷ marks) [] m w e k p = absurd k
  marks-snoc number last (a ∷ marks) (v ∷ ws) m w e k p = (k.0, marks-snoc (number + 1) last marks ws m w (omega arith) k.1 p)

  pub talk-snoc : (number : ℕ) (marks : List Mark) (ws : List Meaning) (m : Mark) (w : Meaning)
      → AreMarksOf number entry b marks ws → talk (ws ++ w ∷ []) (marks ++ m ∷ []) b.histories ≡ talk ws marks b.histories ++ reply_at b.histories m w ∷ []
  talk-snoc number [] [] m w k = refl
  talk-snoc number [] (v ∷ ws) m w k = absurd k
  talk-snoc number (a ∷ marks) [] m w k = absurd k
  talk-snoc number (a ∷ marks) (v ∷ ws) m w k = ap (λ t. reply_at b.histories a v ∷ t) (talk-snoc (number + 1) marks ws m w k.1)

  -- as many marks as requests
  pub marks-length : (number : ℕ) (marks : List Mark) (ws : List Meaning) → AreMarksOf number entry b marks ws → length marks ≡ length ws
  marks-length number [] [] k = refl
  marks-length number [] (w ∷ ws) k = absurd k
  marks-length number (m ∷ marks) [] k = absurd k
  marks-length number (m ∷ marks) (w ∷ ws) k = ap suc (marks-length (number + 1) marks ws k.1)

  pub ats-within : (ats : List At) (step : Step) → AreAtsOf entry b ats step → AllByRecursion (λ (at : At). at.len ≤ length (b.histories at.lock)) ats
  ats-within [] step k = tt
  ats-within (at ∷ ats) (asks a next) k = ((k.0).within, ats-within ats (next (answer_at b.histories at a)) k.1)
  ats-within (at ∷ ats) (replies r) k = absurd k

  -- each ask of the marks lies within the histories
  pub marks-within : (number : ℕ) (marks : List Mark) (ws : List Meaning) → AreMarksOf number entry b marks ws → AllByRecursion (λ (at : At). at.len ≤ length (b.histories at.lock)) (asks_in marks)
  marks-within number [] ws k = tt
  marks-within number (m ∷ marks) [] k = absurd k
  marks-within number (m ∷ marks) (w ∷ ws) k = all-append _ m.asks.items (asks_in marks) (ats-within m.asks.items (step_for w.want (given_of m)) ((k.0).0).asks) (marks-within (number + 1) marks ws k.1)
