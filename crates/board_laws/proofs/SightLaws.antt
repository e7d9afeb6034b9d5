-- What sights depend on.
use Rattle.std.proofs.Common.{◌≡◌, ℕ, List, [], ◌∷◌, ◌++◌, Bool, true, false, cond, not, ◌||◌, ◌+◌, refl, sym, ap, ◌∙◌, subst, map, append-nil}
use Rattle.std.specs.Prelude.{find, fold, unwrap_or, count_by, if◌then◌else◌}
use Rattle.std.specs.List.{AllByRecursion}
use Rattle.std.proofs.lemmas.Bool.{both_ways, not-true}
use Rattle.ck_base.specs.Names.{lock_of_names}
use Rattle.ck_base.specs.declared.key.ZoneKey.{ZoneKey}
use Rattle.ck_base.specs.declared.scope.Scope.{Scope}
use Rattle.ck_base.specs.declared.scope.Scope.TheVariants.{Private, Shared}
use Rattle.record_model.specs.declared.records.Record.{Record}
use Rattle.record_model.specs.declared.view.View.{View}
use Rattle.zone_model.specs.declared.operations.Op.{Op}
use Rattle.zone_model.specs.declared.operations.Past.{Past}
use Rattle.zone_model.specs.declared.commits.Commit.{Commit}
use Rattle.zone_model.specs.declared.events.Event.{Event}
use Rattle.zone_model.specs.Names.{same, is_in, is_default, distinct}
use Rattle.zone_model.specs.Records.{is_there}
use Rattle.zone_model.specs.Zones.{Zone, first_zone, commits_at, zone_at, after_act, act_puts, puts_at}
use Rattle.zone_model.specs.Views.{nowhere, participant_view, view_of_zone, view_of}
use Rattle.zone_model.specs.Past.{past_of, name_history}
use Rattle.zone_model.specs.Requests.{Caller, names_put, puts_in, NamedOp}
use Rattle.zone_model.specs.Judging.{has_fault, judgement}
use Rattle.zone_model.specs.Effect.{effect}
use Rattle.zone_model.specs.Modifying.{is_judged_as_one, effect_at}
use Rattle.zone_laws.specs.LawfulTests.{are_lawful}
use Rattle.zone_model.specs.Events.{log_of}
use Rattle.zone_laws.proofs.TestLaws.{in_turn_back}
use Rattle.zone_laws.proofs.LogLaws.{commits_at-append, zone-append, puts-append}
use Rattle.drawn_names.specs.Drawing.{words_after, named_ops}
use Rattle.board_model.specs.declared.parts.Part.{Part}
use Rattle.board_model.specs.declared.parts.Part.TheVariants.{Modify, Lookup}
use Rattle.board_model.specs.Sights.{OpSight, modifying, viewing, op_sight, sights_of}
use Rattle.board_model.specs.Asks.{caller_in, sight, answer, ops_at}
use Rattle.board_laws.specs.Sighted.{deletes_before, key_of, IsOfOther, ShowTheSame, is_told_at_once, rests_on_seen, SightsAreTold, SightsDecide}
use Rattle.board_laws.proofs.OutcomeLaws.{past_offered}
use Rattle.board_laws.proofs.CommitLaws.{log-append}
use Rattle.board_laws.proofs.ThereLaws.{there-seen}
use Rattle.board_laws.proofs.ZoneSightLaws.{AreAlike, puts_alike, seen_alike, each_alike}
use Rattle.board_laws.proofs.PutStepLaws.{AreSeenAlike, each_put}

-- ---- what a zone's sights depend on: its records, whether it is there, and the counts of puts

pub record IsSameZone (key : ZoneKey) (old new : List Commit) : Type 0 where
  pub zone : zone_at old key ≡ zone_at new key
  pub puts : (x : List ℕ) → puts_at old key x ≡ puts_at new key x

same_more : (key : ZoneKey) (old new more : List Commit) → IsSameZone key old new → IsSameZone key (old ++ more) (new ++ more)
same_more key old new more is = record {
  zone = zone-append old more key ∙ ap (λ z. fold (λ y (c : Commit). after_act y c.act) z (commits_at more key)) is.zone ∙ sym (zone-append new more key);
  puts = λ x. puts-append old more key x ∙ ap (λ n. n + puts_at more key x) (is.puts x) ∙ sym (puts-append new more key x);
}

module _ (caller : Caller) (moment : ℕ) where
  op_alike : (old new : List Commit) (ops : List NamedOp) → IsSameZone caller.key old new → op_sight caller moment old ops ≡ op_sight caller moment new ops
  op_alike old new ops is i = record {
    view = view_of_zone (is.zone i) caller.user caller.scope caller.key;
    pasts = map (λ x. record { name = x; puts = is.puts x i; taken = is_there (is.zone i).rows x }) (distinct (map (λ (o : NamedOp). o.name) (puts_in ops)));
  }

  effect_alike : (old new : List Commit) (ops : List NamedOp) → IsSameZone caller.key old new → effect_at caller moment old ops ≡ effect_at caller moment new ops
  effect_alike old new ops is i =
      let v = view_of_zone (is.zone i) caller.user caller.scope caller.key in
      let pasts : List Past = map (λ x. record { name = x; puts = is.puts x i; taken = is_there (is.zone i).rows x }) (distinct (map (λ (o : NamedOp). o.name) (puts_in ops))) in
      if has_fault (judgement v pasts ops caller) then []
      else effect (record { caller = caller; moment = moment; seen = v.rows; rows = (is.zone i).rows; puts = λ x. is.puts x i; ops = ops })

  sights_alike : (ops : List NamedOp) (old new : List Commit) → IsSameZone caller.key old new → sights_of caller moment old ops ≡ sights_of caller moment new ops
  sights_alike [] old new is = refl
  sights_alike (op ∷ ops) old new is =
      let made = effect_at caller moment old (op ∷ []) in
      let later = subst (λ cs. IsSameZone caller.key (old ++ made) (new ++ cs)) (effect_alike old new (op ∷ []) is) (same_more caller.key old new made is) in
      λ i. op_alike old new (op ∷ []) is i ∷ sights_alike ops (old ++ made) (new ++ effect_at caller moment new (op ∷ [])) later i

-- ---- events of other zones

none_at : (key : ZoneKey) (cs : List Commit) → AllByRecursion (IsOfOther key) cs → commits_at cs key ≡ []
none_at key [] all = refl
none_at key (c ∷ cs) all = ap (λ b. cond b (c ∷ commits_at cs key) (commits_at cs key)) all.0 ∙ none_at key cs all.1

same_behind : (key : ZoneKey) (old more : List Commit) → AllByRecursion (IsOfOther key) more → IsSameZone key (old ++ more) old
same_behind key old more all =
    let none : commits_at (old ++ more) key ≡ commits_at old key = commits_at-append old more key ∙ ap (λ cs. commits_at old key ++ cs) (none_at key more all) ∙ append-nil (commits_at old key) in
    record {
      zone = ap (fold (λ z (c : Commit). after_act z c.act) (first_zone key)) none;
      puts = λ x. ap (count_by (λ (c : Commit). act_puts x c.act)) none;
    }

sight_alike : (lock : ℕ) (old new : List Event) (part : Part) → IsSameZone (key_of part) (log_of old) (log_of new) → sight lock old part ≡ sight lock new part
sight_alike lock old new (Modify user scope key atomic ops moment words) is =
    let caller = caller_in user scope key in
    let named = ops_at key ops words in
    λ i. (let before : OpSight = op_alike caller moment (log_of old) (log_of new) named is i in
    modifying before (if not before.view.here || is_judged_as_one key atomic then [] else sights_alike caller moment named (log_of old) (log_of new) is i))
sight_alike lock old new (Lookup user scope key names) is = ap (λ z. viewing (view_of_zone z user scope key)) is.zone

-- ---- where the user sees the same

always : (b : Bool) → (b || true) ≡ true
always true = refl
always false = refl

as_one_alike : (lock : ℕ) (old new : List Event) (user : List ℕ) (scope : Scope) (key : ZoneKey) (atomic : Bool) (ops : List Op) (moment : ℕ) (words : List (List ℕ)) → is_judged_as_one key atomic ≡ true
    → view_of (log_of old) user scope key ≡ view_of (log_of new) user scope key → name_history (log_of old) key (ops_at key ops words) ≡ name_history (log_of new) key (ops_at key ops words)
    → sight lock old (Modify user scope key atomic ops moment words) ≡ sight lock new (Modify user scope key atomic ops moment words)
as_one_alike lock old new user scope key atomic ops moment words one view pasts =
    let caller = caller_in user scope key in
    let named = ops_at key ops words in
    let alone : (events : List Event) → sight lock events (Modify user scope key atomic ops moment words) ≡ modifying (op_sight caller moment (log_of events) named) [] = λ events.
    let here = (view_of (log_of events) user scope key).here in
    ap (λ b. modifying (op_sight caller moment (log_of events) named) (if not here || b then [] else sights_of caller moment (log_of events) named)) one
    ∙ ap (λ b. modifying (op_sight caller moment (log_of events) named) (if b then [] else sights_of caller moment (log_of events) named)) (always (not here)) in
    alone old ∙ (λ i. (let s : OpSight = record { view = view i; pasts = pasts i } in modifying s [])) ∙ sym (alone new)

-- what comes behind the first sight is not looked at where the zone is not here
behind_by : (h one : Bool) (s : OpSight) (each other : List OpSight) → (h ≡ true → each ≡ other) → modifying s (if not h || one then [] else each) ≡ modifying s (if not h || one then [] else other)
behind_by true true s each other same = refl
behind_by true false s each other same = ap (modifying s) (same refl)
behind_by false one s each other same = refl

zone_alike : (lock : ℕ) (old new : List Event) (user : List ℕ) (scope : Scope) (key : ZoneKey) (atomic : Bool) (ops : List Op) (moment : ℕ) (words : List (List ℕ)) → are_lawful [] (log_of old) ≡ true → are_lawful [] (log_of new) ≡ true
    → zone_at (log_of old) key ≡ zone_at (log_of new) key → name_history (log_of old) key (ops_at key ops words) ≡ name_history (log_of new) key (ops_at key ops words)
    → sight lock old (Modify user scope key atomic ops moment words) ≡ sight lock new (Modify user scope key atomic ops moment words)
zone_alike lock old new user scope key atomic ops moment words lawful_old lawful_new zone pasts =
    let caller = caller_in user scope key in
    let named = ops_at key ops words in
    let each = sights_of caller moment (log_of old) named in
    let alike : (view_of (log_of old) user scope key).here ≡ true → AreAlike key named (log_of old) (log_of new) = λ here. record {
      zone = zone;
      puts = puts_alike (log_of old) (log_of new) key named pasts;
      lawful_old = lawful_old;
      lawful_new = lawful_new;
      there = there-seen (log_of old) user scope key lawful_old here;
    } in
    behind_by (view_of (log_of old) user scope key).here (is_judged_as_one key atomic) (op_sight caller moment (log_of old) named) each (sights_of caller moment (log_of new) named)
    (λ here. each_alike caller moment named (log_of old) (log_of new) (alike here))
    ∙ (λ i. (let s : OpSight = seen_alike caller moment (log_of old) (log_of new) named zone pasts i in
    modifying s (if not s.view.here || is_judged_as_one key atomic then [] else sights_of caller moment (log_of new) named)))

-- the owner's view tells the zone
zone_by : (b t : Bool) (rows : List Record) → (let v : View = if b then (if t then record { here = true; rows = rows } else nowhere) else nowhere in
    v.here ≡ true → ◌≡◌ {A = Zone} (record { there = t; rows = rows }) (record { there = v.here; rows = v.rows }))
zone_by true true rows e = refl
zone_by true false rows e = absurd (both_ways false refl e)
zone_by false t rows e = absurd (both_ways false refl e)

abbrev zone_in : View → Zone
zone_in v = record { there = v.here; rows = v.rows }

zone_seen : (log : List Commit) (user : List ℕ) (key : ZoneKey) → (view_of log user Private key).here ≡ true → zone_at log key ≡ zone_in (view_of log user Private key)
zone_seen log user key e = zone_by (same user key.owner) (zone_at log key).there (zone_at log key).rows e

unseen_alike : (lock : ℕ) (events : List Event) (user : List ℕ) (scope : Scope) (key : ZoneKey) (atomic : Bool) (ops : List Op) (moment : ℕ) (words : List (List ℕ)) → (view_of (log_of events) user scope key).here ≡ false
    → sight lock events (Modify user scope key atomic ops moment words) ≡ modifying (op_sight (caller_in user scope key) moment (log_of events) (ops_at key ops words)) []
unseen_alike lock events user scope key atomic ops moment words e =
    let caller = caller_in user scope key in
    ap (λ h. modifying (op_sight caller moment (log_of events) (ops_at key ops words)) (if not h || is_judged_as_one key atomic then [] else sights_of caller moment (log_of events) (ops_at key ops words))) e

-- where the user sees no such zone, only the past of the names is told
both_unseen : (lock : ℕ) (old new : List Event) (user : List ℕ) (scope : Scope) (key : ZoneKey) (atomic : Bool) (ops : List Op) (moment : ℕ) (words : List (List ℕ)) → (view_of (log_of old) user scope key).here ≡ false
    → view_of (log_of old) user scope key ≡ view_of (log_of new) user scope key → name_history (log_of old) key (ops_at key ops words) ≡ name_history (log_of new) key (ops_at key ops words)
    → sight lock old (Modify user scope key atomic ops moment words) ≡ sight lock new (Modify user scope key atomic ops moment words)
both_unseen lock old new user scope key atomic ops moment words here view pasts =
    unseen_alike lock old user scope key atomic ops moment words here
    ∙ (λ i. (let s : OpSight = record { view = view i; pasts = pasts i } in modifying s []))
    ∙ sym (unseen_alike lock new user scope key atomic ops moment words (subst (λ (v : View). v.here ≡ false) view here))

private_by : (h : Bool) (lock : ℕ) (old new : List Event) (user : List ℕ) (key : ZoneKey) (atomic : Bool) (ops : List Op) (moment : ℕ) (words : List (List ℕ)) → (view_of (log_of old) user Private key).here ≡ h
    → are_lawful [] (log_of old) ≡ true → are_lawful [] (log_of new) ≡ true
    → view_of (log_of old) user Private key ≡ view_of (log_of new) user Private key → name_history (log_of old) key (ops_at key ops words) ≡ name_history (log_of new) key (ops_at key ops words)
    → sight lock old (Modify user Private key atomic ops moment words) ≡ sight lock new (Modify user Private key atomic ops moment words)
private_by true lock old new user key atomic ops moment words here lawful_old lawful_new view pasts =
    let here_new : (view_of (log_of new) user Private key).here ≡ true = subst (λ (v : View). v.here ≡ true) view here in
    zone_alike lock old new user Private key atomic ops moment words lawful_old lawful_new (zone_seen (log_of old) user key here ∙ ap zone_in view ∙ sym (zone_seen (log_of new) user key here_new)) pasts
private_by false lock old new user key atomic ops moment words here lawful_old lawful_new view pasts = both_unseen lock old new user Private key atomic ops moment words here view pasts

-- ---- puts in the shared scope

apart_by : (b : Bool) (v : View) → (if b then nowhere else v).here ≡ true → b ≡ false
apart_by true v e = absurd (both_ways false refl e)
apart_by false v e = refl

named_kinds : (lock : ℕ) (ops : List Op) (words : List (List ℕ)) → map (λ (op : NamedOp). op.kind) (named_ops lock ops words) ≡ map (λ (op : Op). op.kind) ops
named_kinds lock [] words = refl
named_kinds lock (op ∷ ops) words = ap (λ kinds. op.kind ∷ kinds) (named_kinds lock ops (words_after op words))

its_past : (old new : List Commit) (key : ZoneKey) (ops : List NamedOp) → name_history old key ops ≡ name_history new key ops → (x : List ℕ) → is_in (names_put ops) x ≡ true → past_of old key x ≡ past_of new key x
its_past old new key ops same_past x i = ap (λ o. unwrap_or o (past_of old key x)) (sym (past_offered old key ops x i) ∙ ap (find (λ (p : Past). same x p.name)) same_past ∙ past_offered new key ops x i)

shared_by : (h : Bool) (lock : ℕ) (old new : List Event) (user : List ℕ) (key : ZoneKey) (atomic : Bool) (ops : List Op) (moment : ℕ) (words : List (List ℕ)) → (view_of (log_of old) user Shared key).here ≡ h
    → are_lawful [] (log_of old) ≡ true → are_lawful [] (log_of new) ≡ true → deletes_before (map (λ (op : Op). op.kind) ops) ≡ false
    → view_of (log_of old) user Shared key ≡ view_of (log_of new) user Shared key → name_history (log_of old) key (ops_at key ops words) ≡ name_history (log_of new) key (ops_at key ops words)
    → sight lock old (Modify user Shared key atomic ops moment words) ≡ sight lock new (Modify user Shared key atomic ops moment words)
shared_by false lock old new user key atomic ops moment words here lawful_old lawful_new none view pasts = both_unseen lock old new user Shared key atomic ops moment words here view pasts
shared_by true lock old new user key atomic ops moment words here lawful_old lawful_new none view pasts =
    let caller = caller_in user Shared key in
    let named = ops_at key ops words in
    let apart = apart_by (same user key.owner || is_default key) (participant_view (zone_at (log_of old) key) user) here in
    let here_new : (view_of (log_of new) user Shared key).here ≡ true = subst (λ (v : View). v.here ≡ true) view here in
    let alike : AreSeenAlike user key apart moment named (log_of old) (log_of new) = record {
      view = view;
      past = its_past (log_of old) (log_of new) key named pasts;
      lawful_old = lawful_old;
      lawful_new = lawful_new;
      there_old = there-seen (log_of old) user Shared key lawful_old here;
      there_new = there-seen (log_of new) user Shared key lawful_new here_new;
    } in
    (λ i. (let s : OpSight = record { view = view i; pasts = pasts i } in
    modifying s (if not s.view.here || is_judged_as_one key atomic then [] else each_put user key apart moment named (log_of old) (log_of new) alike (ap deletes_before (named_kinds (lock_of_names key.owner key.zone) ops words) ∙ none) i)))

-- ---- the law

at_once_alike : (lock : ℕ) (old new : List Event) (part : Part) → is_told_at_once part ≡ true → ShowTheSame part old new → sight lock old part ≡ sight lock new part
at_once_alike lock old new (Modify user scope key atomic ops moment words) one shown =
    as_one_alike lock old new user scope key atomic ops moment words one (ap (λ (s : OpSight). s.view) shown) (ap (λ (s : OpSight). s.pasts) shown)
at_once_alike lock old new (Lookup user scope key names) one shown = ap viewing shown

in_zone_alike : (lock : ℕ) (old new : List Event) (part : Part) → are_lawful [] (log_of old) ≡ true → are_lawful [] (log_of new) ≡ true
    → zone_at (log_of old) (key_of part) ≡ zone_at (log_of new) (key_of part) → ShowTheSame part old new → sight lock old part ≡ sight lock new part
in_zone_alike lock old new (Modify user scope key atomic ops moment words) lawful_old lawful_new zone shown =
    zone_alike lock old new user scope key atomic ops moment words lawful_old lawful_new zone (ap (λ (s : OpSight). s.pasts) shown)
in_zone_alike lock old new (Lookup user scope key names) lawful_old lawful_new zone shown = ap viewing shown

by_seen_alike : (lock : ℕ) (old new : List Event) (part : Part) → are_lawful [] (log_of old) ≡ true → are_lawful [] (log_of new) ≡ true → rests_on_seen part ≡ true → ShowTheSame part old new
    → sight lock old part ≡ sight lock new part
by_seen_alike lock old new (Modify user Private key atomic ops moment words) lawful_old lawful_new rests shown =
    private_by (view_of (log_of old) user Private key).here lock old new user key atomic ops moment words refl lawful_old lawful_new (ap (λ (s : OpSight). s.view) shown) (ap (λ (s : OpSight). s.pasts) shown)
by_seen_alike lock old new (Modify user Shared key atomic ops moment words) lawful_old lawful_new rests shown =
    shared_by (view_of (log_of old) user Shared key).here lock old new user key atomic ops moment words refl lawful_old lawful_new (not-true (deletes_before (map (λ (op : Op). op.kind) ops)) rests)
    (ap (λ (s : OpSight). s.view) shown) (ap (λ (s : OpSight). s.pasts) shown)
by_seen_alike lock old new (Lookup user scope key names) lawful_old lawful_new rests shown = ap viewing shown

pub sights_decide_all : SightsDecide
sights_decide_all = record {
  answers = λ lock old new part e. ap (λ s. answer lock s part) e;
  others = λ lock old more part all. sight_alike lock (old ++ more) old part (subst (λ l. IsSameZone (key_of part) l (log_of old)) (sym (log-append old more)) (same_behind (key_of part) (log_of old) (log_of more) all));
  at_once = at_once_alike;
  in_zone = λ lock old new part lawful_old lawful_new. in_zone_alike lock old new part (in_turn_back [] (log_of old) lawful_old) (in_turn_back [] (log_of new) lawful_new);
  by_seen = λ lock old new part lawful_old lawful_new. by_seen_alike lock old new part (in_turn_back [] (log_of old) lawful_old) (in_turn_back [] (log_of new) lawful_new);
}

pub sights_told : SightsAreTold
sights_told = record {
  lookup = λ lock events user scope key names. refl;
  as_one = λ lock events user scope key atomic ops moment words one.
      let caller = caller_in user scope key in
      let before : OpSight = op_sight caller moment (log_of events) (ops_at key ops words) in
      let each : List OpSight = sights_of caller moment (log_of events) (ops_at key ops words) in
      ap (λ b. modifying before (if not before.view.here || b then [] else each)) one ∙ ap (λ b. modifying before (if b then [] else each)) (always (not before.view.here));
  unseen = unseen_alike;
  apart = λ lock events user scope key atomic ops moment words apart here.
      let caller = caller_in user scope key in
      let before : OpSight = op_sight caller moment (log_of events) (ops_at key ops words) in
      let each : List OpSight = sights_of caller moment (log_of events) (ops_at key ops words) in
      λ i. modifying before (if not (here i) || apart i then [] else each);
}
