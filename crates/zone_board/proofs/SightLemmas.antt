-- What the owner of a default zone sees, and what an ask comes to by it.
use Rattle.std.proofs.Common.{not, ◌≡◌, ℕ, suc, List, [], ◌∷◌, ◌++◌, Bool, true, false, cond, refl, sym, ap, ◌∙◌, subst, Some, None, Option, map}
use Rattle.std.specs.Prelude.{fold, zip, is_some, if◌then◌else◌}
use Rattle.std.specs.Option.{option_map_or}
use Rattle.std.specs.List.{list_all, AllByRecursion}
use Rattle.std.proofs.lemmas.Bool.{both_ways, and_parts}
use Rattle.ck_base.specs.declared.key.ZoneKey.{ZoneKey}
use Rattle.record_model.specs.declared.records.Record.{Record}
use Rattle.record_model.specs.declared.view.View.{View}
use Rattle.zone_model.specs.declared.operations.Past.{Past}
use Rattle.zone_model.specs.declared.commits.Act.{Act}
use Rattle.zone_model.specs.declared.commits.Act.TheVariants.{Writes, MakeZone, DropZone, SetSubscription, DropSubscription}
use Rattle.zone_model.specs.declared.commits.Commit.{Commit}
use Rattle.zone_model.specs.declared.outcomes.OpFault.{OpFault}
use Rattle.zone_model.specs.declared.outcomes.Outcome.TheVariants.{Put, Deleted}
use Rattle.zone_model.specs.declared.outcomes.Modified.{Modified}
use Rattle.zone_model.specs.Names.{same_key, is_default, distinct}
use Rattle.zone_model.specs.Records.{record_at, is_there}
use Rattle.zone_model.specs.Zones.{Zone, first_zone, zone_at, commits_at, after_act, puts_at}
use Rattle.zone_model.specs.Views.{view_of, view_of_zone, owner_view, nowhere}
use Rattle.zone_model.specs.Past.{past_of, name_history}
use Rattle.zone_model.specs.Requests.{Caller, NamedOp, is_deletion}
use Rattle.zone_model.specs.Effect.{Request, working, stamp, stamped}
use Rattle.zone_model.specs.Modifying.{request_at, judgement_at, done, outcome_of, effect_at, modified_as_one, modified_apart}
use Rattle.plain_creates.specs.PlainCreates.{IsOwner, is_plain_named, refusal_of_create}
use Rattle.plain_creates.specs.OnePuts.{only_put, IsOnePut}
use Rattle.zone_laws.proofs.NameLaws.{same-refl, same-true}
use Rattle.zone_laws.proofs.RecordLaws.{found-name}
use Rattle.zone_laws.proofs.PlainLaws.{creates_done}
use Rattle.board_model.specs.Sights.{OpSight, op_sight, sights_of, puts_seen, request_seen, outcomes_as_one, outcomes_apart}
use Rattle.zone_board.proofs.PlainLemmas.{all_joined, no_deletion}

-- ---- a default zone stays

there_after : (a : Act) (z : Zone) → is_some (only_put a) ≡ true → (after_act z a).there ≡ z.there
there_after (Writes ws) z one = refl
there_after MakeZone z one = absurd (both_ways false refl one)
there_after DropZone z one = absurd (both_ways false refl one)
there_after (SetSubscription s) z one = refl
there_after (DropSubscription scope id) z one = refl

there_by : (b : Bool) (c : Commit) (cs : List Commit) (z : Zone) → IsOnePut c → ((y : Zone) → (fold (λ y (c : Commit). after_act y c.act) y cs).there ≡ y.there)
    → (fold (λ y (c : Commit). after_act y c.act) z (cond b (c ∷ cs) cs)).there ≡ z.there
there_by true c cs z one rest = rest (after_act z c.act) ∙ there_after c.act z one
there_by false c cs z one rest = rest z

stays_there : (log : List Commit) (key : ZoneKey) (z : Zone) → AllByRecursion IsOnePut log → (fold (λ y (c : Commit). after_act y c.act) z (commits_at log key)).there ≡ z.there
stays_there [] key z ones = refl
stays_there (c ∷ log) key z ones = there_by (same_key key c.key) c (commits_at log key) z ones.0 (λ y. stays_there log key y ones.1)

pub default_there : (log : List Commit) (key : ZoneKey) → is_default key ≡ true → AllByRecursion IsOnePut log → (zone_at log key).there ≡ true
default_there log key default ones = stays_there log key (first_zone key) ones ∙ default

-- ---- the owner sees the zone

module _ (caller : Caller) (own : IsOwner caller) where
  pub view_is : (log : List Commit) → (zone_at log caller.key).there ≡ true → view_of log caller.user caller.scope caller.key ≡ record { here = true; rows = (zone_at log caller.key).rows }
  view_is log there =
      let z = zone_at log caller.key in
      let all : View = record { here = true; rows = z.rows } in
      (λ i. view_of_zone z (own.user i) (own.scope i) caller.key)
      ∙ ap (λ b. if b then owner_view z else nowhere) (same-refl caller.key.owner)
      ∙ ap (λ b. if b then all else nowhere) there

  -- ---- one operation

  module _ (moment : ℕ) (log : List Commit) (op : NamedOp) (there : (zone_at log caller.key).there ≡ true) (plain : is_plain_named op ≡ true) where
    abbrev its_name : List ℕ
    its_name = op.name

    abbrev its_sight : OpSight
    its_sight = op_sight caller moment log (op ∷ [])

    abbrev at_log : Request
    at_log = request_at caller moment log (op ∷ [])

    abbrev as_seen : Request
    as_seen = request_seen caller moment its_sight (op ∷ [])

    past_alone : name_history log caller.key (op ∷ []) ≡ past_of log caller.key its_name ∷ []
    past_alone = ap (λ b. map (past_of log caller.key) (distinct (map (λ (o : NamedOp). o.name) (if not b then op ∷ [] else [])))) (no_deletion op.kind op.draft plain)

    puts_alone : puts_seen its_sight.pasts its_name ≡ puts_at log caller.key its_name
    puts_alone = ap (λ ps. puts_seen ps its_name) past_alone
        ∙ ap (λ b. option_map_or (λ (p : Past). p.puts) (cond b (Some (past_of log caller.key its_name)) None) 0) (same-refl its_name)

    stamped_alike : (r : Record) → its_name ≡ r.name → stamped as_seen r ≡ stamped at_log r
    stamped_alike r e =
        let puts = subst (λ x. puts_seen its_sight.pasts x ≡ puts_at log caller.key x) e puts_alone in
        let rows = ap (λ (v : View). v.rows) (view_is log there) in
        λ i. record r { tag = suc (puts i); created = if is_there (rows i) r.name then r.created else stamp at_log; modified = stamp at_log }

    placed_alike : (o : Option Record) → record_at (working at_log) its_name ≡ o
        → option_map_or (λ r. Put (stamped as_seen r)) o (Deleted its_name) ≡ option_map_or (λ r. Put (stamped at_log r)) o (Deleted its_name)
    placed_alike None e = refl
    placed_alike (Some r) e = ap Put (stamped_alike r (same-true its_name r.name (found-name (working at_log) its_name r e)))

    done_alike : done as_seen op ≡ done at_log op
    done_alike = alike_where (is_deletion op.kind)
      where
        alike_where : (d : Bool) → option_map_or (λ r. Put (stamped as_seen r)) (if d then None else record_at (working at_log) its_name) (Deleted its_name)
            ≡ option_map_or (λ r. Put (stamped at_log r)) (if d then None else record_at (working at_log) its_name) (Deleted its_name)
        alike_where true = refl
        alike_where false = placed_alike (record_at (working at_log) its_name) refl

    outcome_alike : (judged : Option OpFault) → outcome_of as_seen (op, judged) ≡ outcome_of at_log (op, judged)
    outcome_alike (Some fault) = refl
    outcome_alike None = done_alike

    mapped_alike : (judged : List (Option OpFault)) → map (outcome_of as_seen) (zip (op ∷ []) judged) ≡ map (outcome_of at_log) (zip (op ∷ []) judged)
    mapped_alike [] = refl
    mapped_alike (j ∷ js) = ap (λ o. o ∷ []) (outcome_alike j)

    pub seen_as_one : outcomes_as_one caller moment its_sight (op ∷ []) ≡ (modified_as_one caller moment log (op ∷ [])).outcomes
    seen_as_one = mapped_alike (judgement_at caller moment log (op ∷ []))

    effect_by : (o : Option OpFault) → refusal_of_create (zone_at log caller.key).rows op.name op.draft ≡ o → AllByRecursion IsOnePut (effect_at caller moment log (op ∷ []))
    effect_by (Some fault) e = subst (AllByRecursion IsOnePut) (sym (ap (λ (m : Modified). m.commits) (creates_done.refused caller moment log op fault own there plain e))) tt
    effect_by None e = subst (AllByRecursion IsOnePut) (sym (ap (λ (m : Modified). m.commits) (creates_done.made caller moment log op own there plain e))) (refl, tt)

    pub effect_ones : AllByRecursion IsOnePut (effect_at caller moment log (op ∷ []))
    effect_ones = effect_by (refusal_of_create (zone_at log caller.key).rows op.name op.draft) refl

  -- ---- one after another

  module _ (moment : ℕ) (default : is_default caller.key ≡ true) where
    pub seen_apart : (ops : List NamedOp) (log : List Commit) → list_all is_plain_named ops ≡ true → AllByRecursion IsOnePut log
        → outcomes_apart caller moment (sights_of caller moment log ops) ops ≡ (modified_apart caller moment log ops).outcomes
    seen_apart [] log plain ones = refl
    seen_apart (op ∷ ops) log plain ones =
        let parts = and_parts (is_plain_named op) _ plain in
        let there = default_there log caller.key default ones in
        let made = effect_at caller moment log (op ∷ []) in
        let more = all_joined IsOnePut log made ones (effect_ones moment log op there parts.0) in
        λ i. seen_as_one moment log op there parts.0 i ++ seen_apart ops (log ++ made) parts.1 more i
