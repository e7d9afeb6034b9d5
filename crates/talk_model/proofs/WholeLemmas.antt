-- The reading of bytes that are whole requests to their end.
use Rattle.std.proofs.Common.{◌≡◌, ℕ, zero, suc, ◌<◌, Bool, true, false, List, [], ◌∷◌, ◌++◌, length, take, refl, sym, ap, subst, ◌∙◌, arith, inl, inr, None, Some, Option}
use Rattle.std.specs.Prelude.{◌⊎◌, is_some, if◌then◌else◌}
use Rattle.std.specs.Option.{option_map_or}
use Rattle.std.specs.List.{AllZip, concat, list_all}
use Rattle.std.proofs.lemmas.Bool.{and_parts}
use Rattle.std.proofs.lemmas.List.Folds.{concat-append}
use Rattle.http_front.specs.declared.request.Request.{Request}
use Rattle.http_front.specs.Requests.{IsRequest}
use Rattle.http_front.specs.Users.{Table}
use Rattle.talk_model.specs.declared.ends.End.{End}
use Rattle.talk_model.specs.declared.ends.End.TheVariants.{Closed, CloseAsked, Spent, NotBuilt}
use Rattle.talk_model.specs.Requests.{Meaning, meaning_of, Wants, HasInFront}
use Rattle.talk_model.specs.Connections.{most_requests, GoOn, LeavesAt, AreRequests, last_text}
use Rattle.talk_model.specs.WholeConnections.{AreWhole, answered, end_behind, IsGoodEnd}
use Rattle.talk_model.specs.ConnectionLaws.{WholeOnesEnd}

module _ (t : Table) where
  -- ---- why no further request is answered, of so many at most

  data Stops (end : End) (ws : List Meaning) (behind : List (List ℕ)) (most : ℕ) : Type 0 where
    none_more : end ≡ Closed → GoOn ws → length ws < most → behind ≡ [] → Stops end ws behind most
    unbuilt : end ≡ NotBuilt → GoOn ws → length ws < most → HasInFront t (concat behind) None → Stops end ws behind most
    closes : end ≡ CloseAsked → (before : List Meaning) → (last : Meaning) → ws ≡ before ++ last ∷ [] → GoOn before → last.close ≡ true → length before < most → Stops end ws behind most
    spent : end ≡ Spent → GoOn ws → length ws ≡ most → Stops end ws behind most

  stops_on : (w : Meaning) (end : End) (ws : List Meaning) (behind : List (List ℕ)) (most : ℕ) → w.close ≡ false → Stops end ws behind most → Stops end (w ∷ ws) behind (suc most)
  stops_on w end ws behind most stays (none_more is all few none) = none_more is (stays, all) (omega (arith, few)) none
  stops_on w end ws behind most stays (unbuilt is all few u) = unbuilt is (stays, all) (omega (arith, few)) u
  stops_on w end ws behind most stays (closes is before last parts all asks few) = closes is (w ∷ before) last (ap (λ (vs : List Meaning). w ∷ vs) parts) (stays, all) asks (omega (arith, few))
  stops_on w end ws behind most stays (spent is all same) = spent is (stays, all) (omega (arith, same))

  -- those that are answered, and the bytes of those behind them
  record Reading (pieces : List (List ℕ)) (ws : List Meaning) (end : End) (most : ℕ) : Type 0 where
    front : List (List ℕ)
    behind : List (List ℕ)
    parts : pieces ≡ front ++ behind
    each : AllZip (Wants t) front ws
    stops : Stops end ws behind most

  module _ (p : List ℕ) (ps : List (List ℕ)) (r : Request) (rs : List Request) (n : ℕ) (is : IsRequest p r) (more : Reading ps (answered t n rs) (end_behind t n rs) n) where
    by_close : (w : Meaning) → meaning_of t r ≡ Some w → (b : Bool) → w.close ≡ b → Reading (p ∷ ps) (w ∷ (if b then [] else answered t n rs)) (if b then CloseAsked else end_behind t n rs) (suc n)
    by_close w means true asks = record {
      front = p ∷ [];
      behind = ps;
      parts = refl;
      each = ((r, is, means), tt);
      stops = closes refl [] w refl tt asks (omega arith);
    }
    by_close w means false stays = record {
      front = p ∷ more.front;
      behind = more.behind;
      parts = ap (λ (qs : List (List ℕ)). p ∷ qs) more.parts;
      each = ((r, is, means), more.each);
      stops = stops_on w (end_behind t n rs) (answered t n rs) more.behind n stays more.stops;
    }

    by_meaning : (meaning : Option Meaning) → meaning_of t r ≡ meaning
        → Reading (p ∷ ps) (option_map_or (λ (w : Meaning). w ∷ (if w.close then [] else answered t n rs)) meaning [])
        (option_map_or (λ (w : Meaning). if w.close then CloseAsked else end_behind t n rs) meaning NotBuilt) (suc n)
    by_meaning None none = record {
      front = [];
      behind = p ∷ ps;
      parts = refl;
      each = tt;
      stops = unbuilt refl tt (omega arith) (r, record { front = p; rest = concat ps; parts = refl; is = is }, none);
    }
    by_meaning (Some w) means = by_close w means w.close refl

  reading : (n : ℕ) (ps : List (List ℕ)) (rs : List Request) → AllZip IsRequest ps rs → Reading ps (answered t n rs) (end_behind t n rs) n
  reading zero ps rs k = record { front = []; behind = ps; parts = refl; each = tt; stops = spent refl tt refl }
  reading (suc n) [] [] k = record { front = []; behind = []; parts = refl; each = tt; stops = none_more refl tt (omega arith) refl }
  reading (suc n) [] (r ∷ rs) k = absurd k
  reading (suc n) (p ∷ ps) [] k = absurd k
  reading (suc n) (p ∷ ps) (r ∷ rs) k = by_meaning p ps r rs n k.0 (reading n ps rs k.1) (meaning_of t r) refl

  -- ---- of as many as a connection may have

  leaves : (end : End) (ws : List Meaning) (behind : List (List ℕ)) → Stops end ws behind most_requests → LeavesAt t end ws (concat behind)
  leaves end ws behind (none_more is all few none) = subst (λ (e : End). LeavesAt t e ws (concat behind)) (sym is) (record { few = few; go_on = all }, ap concat none)
  leaves end ws behind (unbuilt is all few u) = subst (λ (e : End). LeavesAt t e ws (concat behind)) (sym is) (record { few = few; go_on = all }, u)
  leaves end ws behind (closes is before last parts all asks few) =
      subst (λ (e : End). LeavesAt t e ws (concat behind)) (sym is) (last, record { before = before; parts = parts; open_before = record { few = few; go_on = all } }, asks)
  leaves end ws behind (spent is all same) = subst (λ (e : End). LeavesAt t e ws (concat behind)) (sym is) (same, all)

  reading_of : (n : ℕ) (bytes : List ℕ) (rs : List Request) (w : AreWhole bytes rs) → ((end : End) (ws : List Meaning) (behind : List (List ℕ)) → Stops end ws behind n → LeavesAt t end ws (concat behind))
      → AreRequests t bytes (answered t n rs) (end_behind t n rs)
  reading_of n bytes rs w leaves_by =
      let read : Reading w.0 (answered t n rs) (end_behind t n rs) n = reading n w.0 rs w.2 in
      record {
        requests = read.front;
        rest = concat read.behind;
        bytes_are = w.1 ∙ (ap concat read.parts ∙ concat-append read.front read.behind);
        each = read.each;
        leaves = leaves_by (end_behind t n rs) (answered t n rs) read.behind read.stops;
      }

  -- ---- good ends

  -- at each of these ends nothing is written last
  abbrev IsQuiet : End → Type 0
  IsQuiet end = (end ≡ NotBuilt) ⊎ IsGoodEnd end

  quiet_step : (rs : List Request) (n : ℕ) → IsQuiet (end_behind t n rs) → (meaning : Option Meaning) → IsQuiet (option_map_or (λ (w : Meaning). if w.close then CloseAsked else end_behind t n rs) meaning NotBuilt)
  quiet_step rs n more None = inl refl
  quiet_step rs n more (Some w) = by_close w.close
    where
      by_close : (b : Bool) → IsQuiet (if b then CloseAsked else end_behind t n rs)
      by_close true = inr (inr (inl refl))
      by_close false = more

  quiet : (n : ℕ) (rs : List Request) → IsQuiet (end_behind t n rs)
  quiet zero rs = inr (inr (inr refl))
  quiet (suc n) [] = inr (inl refl)
  quiet (suc n) (r ∷ rs) = quiet_step rs n (quiet n rs) (meaning_of t r)

  nothing_written : (end : End) → IsQuiet end → last_text end ≡ []
  nothing_written end (inl is) = ap last_text is
  nothing_written end (inr (inl is)) = ap last_text is
  nothing_written end (inr (inr (inl is))) = ap last_text is
  nothing_written end (inr (inr (inr is))) = ap last_text is

  -- where all forms are built, the connection goes on, was asked to close or is spent
  abbrev are_built : List Request → Bool
  are_built rs = list_all (λ (r : Request). is_some (meaning_of t r)) rs

  good_step : (rs : List Request) (n : ℕ) → IsGoodEnd (end_behind t n rs) → (meaning : Option Meaning) → is_some meaning ≡ true
      → IsGoodEnd (option_map_or (λ (w : Meaning). if w.close then CloseAsked else end_behind t n rs) meaning NotBuilt)
  good_step rs n good None built = absurd (cc)
  good_step rs n good (Some w) built = by_close w.close
    where
      by_close : (b : Bool) → IsGoodEnd (if b then CloseAsked else end_behind t n rs)
      by_close true = inr (inl refl)
      by_close false = good

  goes_or_closes : (n : ℕ) (rs : List Request) → are_built (take n rs) ≡ true → IsGoodEnd (end_behind t n rs)
  goes_or_closes zero rs all = inr (inr refl)
  goes_or_closes (suc n) [] all = inl refl
  goes_or_closes (suc n) (r ∷ rs) all =
      let parts = and_parts (is_some (meaning_of t r)) (are_built (take n rs)) all in
      good_step rs n (goes_or_closes n rs parts.1) (meaning_of t r) parts.0

pub whole_ones_end : WholeOnesEnd
whole_ones_end = record {
  reading = λ t bytes rs w. reading_of t most_requests bytes rs w (leaves t);
  nothing_last = λ t rs. nothing_written t (end_behind t most_requests rs) (quiet t most_requests rs);
  good = λ t rs all. goes_or_closes t most_requests rs all;
}
