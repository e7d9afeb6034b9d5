-- What an ask makes is legal.
use Rattle.std.proofs.Common.{◌≡◌, ℕ, suc, ◌≤◌, List, [], ◌∷◌, ◌++◌, length, Bool, true, false, refl, sym, ap, ◌∙◌, subst, arith, append-nil, length-append}
use Rattle.std.specs.Prelude.{if◌then◌else◌}
use Rattle.std.specs.List.{list_all, AllByRecursion}
use Rattle.std.proofs.lemmas.Grind.{flat_map-append}
use Rattle.ck_base.specs.Names.{lock_of_names}
use Rattle.ck_base.specs.declared.key.ZoneKey.{ZoneKey}
use Rattle.zone_model.specs.declared.commits.Act.TheVariants.{Writes}
use Rattle.zone_model.specs.declared.commits.Commit.{Commit}
use Rattle.zone_model.specs.declared.events.Event.{Event}
use Rattle.zone_model.specs.declared.events.Event.TheVariants.{Made}
use Rattle.zone_model.specs.Names.{has_twice}
use Rattle.zone_model.specs.Zones.{zone_at}
use Rattle.zone_model.specs.Views.{is_empty}
use Rattle.zone_model.specs.Events.{commits_of, log_of, own}
use Rattle.zone_model.specs.Requests.{Caller, NamedOp}
use Rattle.zone_model.specs.Judging.{has_fault}
use Rattle.zone_model.specs.Effect.{removed, writes}
use Rattle.zone_model.specs.Modifying.{request_at, judgement_at, effect_at, modified_apart}
use Rattle.zone_model.specs.Lawful.{MayFollowInTurn}
use Rattle.zone_model.specs.Legal.{IsOfLock, AreLegalCommits}
use Rattle.plain_creates.specs.PlainCreates.{is_plain_named}
use Rattle.plain_creates.specs.OnePuts.{IsOnePut}
use Rattle.zone_laws.proofs.LawfulLaws.{effects_lawful}
use Rattle.zone_laws.proofs.LegalLaws.{histories_legal}
use Rattle.zone_laws.proofs.TestLaws.{all_at}
use Rattle.board_model.specs.Asks.{stored, event_of}
use Rattle.zone_board.specs.Kept.{IsKept, IsCreation}
use Rattle.zone_board.proofs.PlainLemmas.{all_joined, all_weaker, no_roots}

-- ---- how many commits a request makes

one_at_most : (b c : Bool) (x : Commit) → length (if b then [] else (if c then [] else x ∷ [])) ≤ 1
one_at_most true c x = omega arith
one_at_most false true x = omega arith
one_at_most false false x = omega arith

pub few_made : (caller : Caller) (moment : ℕ) (ops : List NamedOp) (log : List Commit) → length (modified_apart caller moment log ops).commits ≤ length ops
few_made caller moment [] log = omega arith
few_made caller moment (op ∷ ops) log =
    let q = request_at caller moment log (op ∷ []) in
    let made = effect_at caller moment log (op ∷ []) in
    let first : length made ≤ 1 = one_at_most (has_fault (judgement_at caller moment log (op ∷ []))) (is_empty (writes q (removed q))) (record { key = caller.key; user = caller.user; moment = moment; act = Writes (writes q (removed q)) }) in
    let later = few_made caller moment ops (log ++ made) in
    omega (arith, length-append made (modified_apart caller moment (log ++ made) ops).commits, first, later)

-- what creations commit may follow
pub lawful_made : (caller : Caller) (moment : ℕ) (log : List Commit) (ops : List NamedOp) → MayFollowInTurn [] log → (zone_at log caller.key).there ≡ true → list_all is_plain_named ops ≡ true
    → MayFollowInTurn log (modified_apart caller moment log ops).commits
lawful_made caller moment log ops lawful there plain = effects_lawful.requests caller moment log false ops lawful there (ap has_twice (no_roots ops plain))

-- ---- an event more

of_lock : (lock : ℕ) (key : ZoneKey) (cs : List Commit) → lock_of_names key.owner key.zone ≡ lock → AllByRecursion (IsCreation key) cs → AllByRecursion (IsOfLock lock) cs
of_lock lock key cs at formed = all_weaker (IsCreation key) (IsOfLock lock) cs (λ c is. ap (λ (k : ZoneKey). lock_of_names k.owner k.zone) is.zone ∙ at) formed

log_more : (es : List Event) (e : Event) → log_of es ++ commits_of e ≡ log_of (es ++ e ∷ [])
log_more es e = sym (flat_map-append commits_of es (e ∷ []) ∙ ap (λ cs. log_of es ++ cs) (append-nil (commits_of e)))

-- lawful creations, 200 at most, keep the history as it is to be
pub kept_more : (lock seat : ℕ) (events : List Event) (key : ZoneKey) (cs : List Commit) → IsKept lock events → lock_of_names key.owner key.zone ≡ lock → AllByRecursion (IsCreation key) cs → length cs ≤ 200
    → MayFollowInTurn (log_of events) cs → IsKept lock (events ++ event_of stored seat events cs)
kept_more lock seat events key [] kept at formed few lawful = subst (IsKept lock) (sym (append-nil events)) kept
kept_more lock seat events key (c ∷ cs) kept at formed few lawful =
    let e : Event = Made (record { seat = seat; count = suc (length (own seat events)) }) (c ∷ cs) in
    let commits : AreLegalCommits lock (log_of events) (c ∷ cs) = record {
      some = omega arith;
      few = few;
      of_lock = of_lock lock key (c ∷ cs) at formed;
      lawful = λ before d after is. record { form = (all_at (IsCreation key) before d after (subst (AllByRecursion (IsCreation key)) is formed)).form; follows = lawful before d after is };
    } in
    record {
      legal = histories_legal.grows lock events e kept.legal (record { next = refl; allowed = commits });
      puts = subst (AllByRecursion IsOnePut) (log_more events e) (all_joined IsOnePut (log_of events) (c ∷ cs) kept.puts (all_weaker (IsCreation key) IsOnePut (c ∷ cs) (λ d is. is.one) formed));
    }
