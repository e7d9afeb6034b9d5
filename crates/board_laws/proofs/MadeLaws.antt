-- A modify makes something just where some outcome tells of something written.
use Rattle.std.proofs.Common.{◌≡◌, ℕ, List, [], ◌∷◌, Bool, true, false, not, refl, sym, ap, ◌∙◌}
use Rattle.std.specs.Prelude.{if◌then◌else◌}
use Rattle.std.specs.List.{list_any}
use Rattle.zone_model.specs.declared.commits.Commit.{Commit}
use Rattle.zone_model.specs.Names.{has_twice}
use Rattle.zone_model.specs.Zones.{zone_at}
use Rattle.zone_model.specs.Views.{is_empty, view_of}
use Rattle.zone_model.specs.Requests.{Caller, roots_in, NamedOp}
use Rattle.zone_model.specs.Modifying.{is_judged_as_one, effect_at, modified_as_one, steps, modified_apart}
use Rattle.zone_model.specs.Lawful.{MayFollowInTurn}
use Rattle.zone_model.specs.Events.{log_of}
use Rattle.zone_laws.specs.Answering.{has_written}
use Rattle.zone_laws.proofs.MadeLaws.{made_where_written}
use Rattle.zone_laws.proofs.StepsLaws.{steps_kept}
use Rattle.zone_laws.specs.Stepping.{tells_written_at}
use Rattle.board_model.specs.Asks.{caller_in, makes, ops_at}
use Rattle.board_laws.specs.Answered.{MadeWhereTold}
use Rattle.board_laws.proofs.CommitLaws.{commits_made}

makes_some : (cs : List Commit) → makes cs ≡ not (is_empty cs)
makes_some [] = refl
makes_some (c ∷ cs) = refl

module _ (caller : Caller) (moment : ℕ) where
  one_made : (log : List Commit) (ops : List NamedOp) → MayFollowInTurn [] log → (zone_at log caller.key).there ≡ true → has_twice (roots_in ops) ≡ false
      → makes (effect_at caller moment log ops) ≡ list_any (has_written (view_of log caller.user caller.scope caller.key).rows) (modified_as_one caller moment log ops).outcomes
  one_made log ops lawful there roots = makes_some (effect_at caller moment log ops) ∙ made_where_written caller moment log ops lawful there roots

  apart_made : (log : List Commit) (ops : List NamedOp) → MayFollowInTurn [] log → (zone_at log caller.key).there ≡ true
      → makes (modified_apart caller moment log ops).commits ≡ list_any (tells_written_at caller moment) (steps caller moment log ops)
  apart_made log ops lawful there = makes_some (modified_apart caller moment log ops).commits ∙ steps_kept.all_made caller moment log ops lawful there

told_by : (b c : Bool) (caller : Caller) (moment : ℕ) (log : List Commit) (ops : List NamedOp) → b ≡ c
    → makes (if b then modified_as_one caller moment log ops else modified_apart caller moment log ops).commits
    ≡ makes (if c then modified_as_one caller moment log ops else modified_apart caller moment log ops).commits
told_by b c caller moment log ops e = ap (λ d. makes (if d then modified_as_one caller moment log ops else modified_apart caller moment log ops).commits) e

pub made_where_told : MadeWhereTold
made_where_told = record {
  as_one = λ lock events user scope key atomic ops moment words one lawful there roots here.
      let caller = caller_in user scope key in
      let named = ops_at key ops words in
      ap makes (commits_made.modify lock events user scope key atomic ops moment words here)
      ∙ told_by (is_judged_as_one key atomic) true caller moment (log_of events) named one
      ∙ one_made caller moment (log_of events) named lawful there roots
      ∙ sym (ap (λ b. list_any (has_written (view_of (log_of events) user scope key).rows) (if b then modified_as_one caller moment (log_of events) named else modified_apart caller moment (log_of events) named).outcomes) one);
  apart = λ lock events user scope key atomic ops moment words apart lawful there here.
      let caller = caller_in user scope key in
      let named = ops_at key ops words in
      ap makes (commits_made.modify lock events user scope key atomic ops moment words here)
      ∙ told_by (is_judged_as_one key atomic) false caller moment (log_of events) named apart
      ∙ apart_made caller moment (log_of events) named lawful there;
}
