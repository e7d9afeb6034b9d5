-- In the shared scope operations that put, one after another, find the same sights where what the user sees is the same, and the past of what they offer.
use Rattle.std.proofs.Common.{◌≡◌, ℕ, ◌+◌, List, [], ◌∷◌, ◌++◌, length, Bool, true, false, cond, not, ◌||◌, refl, sym, ap, ◌∙◌, subst, arith, map, Some, None, Option, append-nil}
use Rattle.std.specs.Prelude.{filter, fold, zip, if◌then◌else◌}
use Rattle.std.specs.List.{AllByRecursion}
use Rattle.std.proofs.lemmas.Bool.{both_ways, or_left, or_parts}
use Rattle.ck_base.specs.declared.key.ZoneKey.{ZoneKey}
use Rattle.ck_base.specs.declared.scope.Scope.TheVariants.{Shared}
use Rattle.record_model.specs.declared.records.Record.{Record}
use Rattle.record_model.specs.declared.view.View.{View}
use Rattle.name_rules.proofs.NameLemmas.{same-refl}
use Rattle.zone_model.specs.declared.operations.Past.{Past}
use Rattle.zone_model.specs.declared.outcomes.OpFault.{OpFault}
use Rattle.zone_model.specs.declared.commits.Write.{Write}
use Rattle.zone_model.specs.declared.commits.Act.TheVariants.{Writes}
use Rattle.zone_model.specs.declared.commits.Commit.{Commit}
use Rattle.zone_model.specs.Names.{same, is_in, is_default, distinct}
use Rattle.zone_model.specs.Records.{is_there}
use Rattle.zone_model.specs.Zones.{Zone, zone_at, puts_at, after_write, after_act}
use Rattle.zone_model.specs.Views.{is_empty, nowhere, is_visible, participant_view, view_of}
use Rattle.zone_model.specs.Past.{past_of, name_history}
use Rattle.zone_model.specs.Requests.{Caller, NamedOp, is_deletion, names_put}
use Rattle.zone_model.specs.Grounds.{Grounds}
use Rattle.zone_model.specs.Judging.{has_fault, judgement}
use Rattle.zone_model.specs.Effect.{Request, writes, commits_with, effect}
use Rattle.zone_model.specs.Modifying.{request_at, judgement_at, effect_at}
use Rattle.zone_laws.specs.LawfulTests.{are_lawful}
use Rattle.zone_laws.specs.Laws.{IsPermittedOp, IsPermitted}
use Rattle.zone_laws.proofs.NameLaws.{key-refl}
use Rattle.zone_laws.proofs.LogLaws.{zone-snoc, puts-append}
use Rattle.zone_laws.proofs.KeptLaws.{ground, IsFine}
use Rattle.zone_laws.proofs.ConflictLaws.{all_judged}
use Rattle.zone_laws.proofs.SharedLaws.{changes_permitted}
use Rattle.zone_laws.proofs.LawfulLaws.{is_fine, lawful-effect, there-after, lawful-append, one_root}
use Rattle.board_model.specs.Sights.{op_sight, sights_of}
use Rattle.board_laws.specs.Sighted.{deletes_before}
use Rattle.board_laws.proofs.OutcomeLaws.{all_mapped}
use Rattle.board_laws.proofs.ZoneSightLaws.{distinct_within, all_on, offered_here, offered_later}
use Rattle.board_laws.proofs.PutSightLaws.{request_in, none_removed, writes_alike, view_after, there_alike}

-- ---- operations without a fault are permitted

all_permitted : (g : Grounds) (ops : List NamedOp) (faults : List (Option OpFault)) → length faults ≡ length ops → has_fault faults ≡ false → AllByRecursion (IsPermitted g) (zip ops faults) → AllByRecursion (IsPermittedOp g) ops
all_permitted g [] faults len none all = tt
all_permitted g (op ∷ ops) [] len none all = absurd (omega (arith, len))
all_permitted g (op ∷ ops) (None ∷ faults) len none all = (all.0 refl, all_permitted g ops faults (omega (arith, len)) none all.1)
all_permitted g (op ∷ ops) (Some fault ∷ faults) len none all = absurd (both_ways true none refl)

nothing_in : (ws : List Write) → is_empty ws ≡ true → ws ≡ []
nothing_in [] e = refl
nothing_in (w ∷ ws) e = absurd (both_ways false refl e)

-- the same past of each name that is offered
past_from : (old new : List Commit) (key : ZoneKey) (ops : List NamedOp) → ((x : List ℕ) → is_in (names_put ops) x ≡ true → past_of old key x ≡ past_of new key x) → name_history old key ops ≡ name_history new key ops
past_from old new key ops past =
    all_mapped (past_of old key) (past_of new key) (distinct (names_put ops))
    (all_on (λ x. is_in (names_put ops) x ≡ true) (λ x. past_of old key x ≡ past_of new key x) (distinct (names_put ops)) past (distinct_within (names_put ops) (names_put ops) (λ x i. i)))

its_name_offered : (op : NamedOp) → is_deletion op.kind ≡ false → is_in (names_put (op ∷ [])) op.name ≡ true
its_name_offered op puts_one =
    ap (λ d. is_in (map (λ (p : NamedOp). p.name) (cond (not d) (op ∷ []) [])) op.name) puts_one
    ∙ or_left (same op.name op.name) false (same-refl op.name)

module _ (user : List ℕ) (key : ZoneKey) (apart : (same user key.owner || is_default key) ≡ false) (moment : ℕ) where
  abbrev caller : Caller
  caller = record { user = user; scope = Shared; key = key }

  view_is : (log : List Commit) → view_of log user Shared key ≡ participant_view (zone_at log key) user
  view_is log = ap (λ b. if b then nowhere else participant_view (zone_at log key) user) apart

  rows_seen : (log : List Commit) → (view_of log user Shared key).rows ≡ filter (is_visible (zone_at log key).rows user) (zone_at log key).rows
  rows_seen log = ap (λ (v : View). v.rows) (view_is log)

  -- two logs where the user sees the same, and what the operations offer has the same past
  pub record AreSeenAlike (ops : List NamedOp) (old new : List Commit) : Type 0 where
    pub view : view_of old user Shared key ≡ view_of new user Shared key
    pub past : (x : List ℕ) → is_in (names_put ops) x ≡ true → past_of old key x ≡ past_of new key x
    pub lawful_old : are_lawful [] old ≡ true
    pub lawful_new : are_lawful [] new ≡ true
    pub there_old : (zone_at old key).there ≡ true
    pub there_new : (zone_at new key).there ≡ true

  abbrev commit_of : List Write → Commit
  commit_of ws = record { key = key; user = user; moment = moment; act = Writes ws }

  rows_by : (e : Bool) (log : List Commit) (ws : List Write) → is_empty ws ≡ e → (zone_at (log ++ (if e then [] else commit_of ws ∷ [])) key).rows ≡ fold after_write (zone_at log key).rows ws
  rows_by true log ws is = ap (λ l. (zone_at l key).rows) (append-nil log) ∙ sym (ap (fold after_write (zone_at log key).rows) (nothing_in ws is))
  rows_by false log ws is = ap (λ (z : Zone). z.rows) (zone-snoc log (commit_of ws) key ∙ ap (λ b. if b then after_act (zone_at log key) (Writes ws) else zone_at log key) (key-refl key))

  abbrev made_of : List Write → List Commit
  made_of ws = if is_empty ws then [] else commit_of ws ∷ []

  rows_after : (log : List Commit) (ws : List Write) → (zone_at (log ++ made_of ws) key).rows ≡ fold after_write (zone_at log key).rows ws
  rows_after log ws = rows_by (is_empty ws) log ws refl

  module _ (op : NamedOp) (ops : List NamedOp) (old new : List Commit) (alike : AreSeenAlike (op ∷ ops) old new) where
    abbrev seen : List Record
    seen = (view_of old user Shared key).rows

    abbrev pasts : List Past
    pasts = name_history old key (op ∷ [])

    same_pasts : name_history old key (op ∷ []) ≡ name_history new key (op ∷ [])
    same_pasts = past_from old new key (op ∷ []) (λ x i. alike.past x (offered_here op ops x i))

    abbrev one : Request
    one = request_in user key moment seen op pasts (zone_at old key).rows (puts_at old key)

    abbrev other : Request
    other = request_in user key moment seen op pasts (zone_at new key).rows (puts_at new key)

    same_judgement : judgement_at caller moment old (op ∷ []) ≡ judgement_at caller moment new (op ∷ [])
    same_judgement i = judgement (alike.view i) (same_pasts i) (op ∷ []) caller

    -- what both logs are followed by leaves them alike
    followed : (more : List Commit) → effect_at caller moment old (op ∷ []) ≡ more → effect_at caller moment new (op ∷ []) ≡ more
        → view_of (old ++ more) user Shared key ≡ view_of (new ++ more) user Shared key
        → ((x : List ℕ) → is_there (zone_at old key).rows x ≡ is_there (zone_at new key).rows x → is_there (zone_at (old ++ more) key).rows x ≡ is_there (zone_at (new ++ more) key).rows x)
        → AreSeenAlike ops (old ++ effect_at caller moment old (op ∷ [])) (new ++ effect_at caller moment new (op ∷ []))
    followed more made_old made_new view taken = record {
      view = ap (λ cs. view_of (old ++ cs) user Shared key) made_old ∙ view ∙ sym (ap (λ cs. view_of (new ++ cs) user Shared key) made_new);
      past = λ x i.
          let before = alike.past x (offered_later op ops x i) in
          let puts = puts-append old more key x ∙ ap (λ (p : Past). p.puts + puts_at more key x) before ∙ sym (puts-append new more key x) in
          let there = taken x (ap (λ (p : Past). p.taken) before) in
          ap (λ cs. past_of (old ++ cs) key x) made_old ∙ (λ j. record { name = x; puts = puts j; taken = there j }) ∙ sym (ap (λ cs. past_of (new ++ cs) key x) made_new);
      lawful_old = lawful-append [] old (effect_at caller moment old (op ∷ [])) alike.lawful_old (lawful-effect caller moment old (op ∷ []) alike.lawful_old alike.there_old (one_root op));
      lawful_new = lawful-append [] new (effect_at caller moment new (op ∷ [])) alike.lawful_new (lawful-effect caller moment new (op ∷ []) alike.lawful_new alike.there_new (one_root op));
      there_old = there-after caller moment old (op ∷ []) alike.lawful_old alike.there_old (one_root op);
      there_new = there-after caller moment new (op ∷ []) alike.lawful_new alike.there_new (one_root op);
    }

    module _ (puts_one : is_deletion op.kind ≡ false) (judged : has_fault (judgement_at caller moment old (op ∷ [])) ≡ false) where
      judged_new : has_fault (judgement_at caller moment new (op ∷ [])) ≡ false
      judged_new = ap has_fault (sym same_judgement) ∙ judged

      fine : IsFine one pasts
      fine = is_fine caller moment old (op ∷ []) alike.lawful_old alike.there_old (one_root op) judged

      fine_new : IsFine other pasts
      fine_new = subst (IsFine other) (sym same_pasts)
          (subst (λ (v : View). IsFine (record { caller = caller; moment = moment; seen = v.rows; rows = (zone_at new key).rows; puts = puts_at new key; ops = op ∷ [] }) (name_history new key (op ∷ []))) (sym alike.view)
          (is_fine caller moment new (op ∷ []) alike.lawful_new alike.there_new (one_root op) judged_new))

      permitted : IsPermittedOp (ground one pasts) op
      permitted = (all_permitted (ground one pasts) (op ∷ []) (judgement_at caller moment old (op ∷ [])) (all_judged (view_of old user Shared key) pasts (op ∷ []) caller) judged
          (changes_permitted caller (view_of old user Shared key) pasts (op ∷ []) refl)).0

      its_past : past_of old key op.name ≡ past_of new key op.name
      its_past = alike.past op.name (offered_here op ops op.name (its_name_offered op puts_one))

      counted : puts_at old key op.name ≡ puts_at new key op.name
      counted = ap (λ (p : Past). p.puts) its_past

      taken : is_there (zone_at old key).rows op.name ≡ is_there (zone_at new key).rows op.name
      taken = ap (λ (p : Past). p.taken) its_past

      same_writes : writes one [] ≡ writes other []
      same_writes = writes_alike user key moment seen op pasts (zone_at old key).rows (zone_at new key).rows (puts_at old key) (puts_at new key) puts_one fine fine_new permitted counted taken

      abbrev made : List Commit
      made = made_of (writes one [])

      made_old : effect_at caller moment old (op ∷ []) ≡ made
      made_old = ap (λ b. if b then [] else effect one) judged ∙ ap (λ gone. commits_with one (writes one gone)) (none_removed user key moment seen op pasts (zone_at old key).rows (puts_at old key) puts_one)

      made_new : effect_at caller moment new (op ∷ []) ≡ made
      made_new =
          ap (λ b. if b then [] else effect (request_at caller moment new (op ∷ []))) judged_new
          ∙ (λ i. effect (record { caller = caller; moment = moment; seen = (sym alike.view i).rows; rows = (zone_at new key).rows; puts = puts_at new key; ops = op ∷ [] }))
          ∙ ap (λ gone. commits_with other (writes other gone)) (none_removed user key moment seen op pasts (zone_at new key).rows (puts_at new key) puts_one)
          ∙ ap made_of (sym same_writes)

      rows_old : (zone_at (old ++ made) key).rows ≡ fold after_write (zone_at old key).rows (writes one [])
      rows_old = rows_after old (writes one [])

      rows_new : (zone_at (new ++ made) key).rows ≡ fold after_write (zone_at new key).rows (writes other [])
      rows_new = rows_after new (writes one []) ∙ ap (fold after_write (zone_at new key).rows) same_writes

      seen_too : seen ≡ filter (is_visible (zone_at new key).rows user) (zone_at new key).rows
      seen_too = ap (λ (v : View). v.rows) alike.view ∙ rows_seen new

      same_rows_seen : filter (is_visible (zone_at (old ++ made) key).rows user) (zone_at (old ++ made) key).rows ≡ filter (is_visible (zone_at (new ++ made) key).rows user) (zone_at (new ++ made) key).rows
      same_rows_seen =
          ap (λ rs. filter (is_visible rs user) rs) rows_old
          ∙ view_after user key moment seen op pasts (zone_at old key).rows (zone_at new key).rows (puts_at old key) (puts_at new key) puts_one fine fine_new permitted counted taken (rows_seen old) seen_too
          ∙ sym (ap (λ rs. filter (is_visible rs user) rs) rows_new)

      same_view : view_of (old ++ made) user Shared key ≡ view_of (new ++ made) user Shared key
      same_view = view_is (old ++ made) ∙ (λ i. (let rs = same_rows_seen i in record { here = not (is_empty rs); rows = rs })) ∙ sym (view_is (new ++ made))

      same_taken : (x : List ℕ) → is_there (zone_at old key).rows x ≡ is_there (zone_at new key).rows x → is_there (zone_at (old ++ made) key).rows x ≡ is_there (zone_at (new ++ made) key).rows x
      same_taken x there =
          ap (λ rs. is_there rs x) rows_old
          ∙ there_alike user key moment seen op pasts (zone_at old key).rows (zone_at new key).rows (puts_at old key) (puts_at new key) puts_one fine fine_new permitted counted taken (rows_seen old) seen_too x there
          ∙ sym (ap (λ rs. is_there rs x) rows_new)

    next_by : (b : Bool) → is_deletion op.kind ≡ false → has_fault (judgement_at caller moment old (op ∷ [])) ≡ b → AreSeenAlike ops (old ++ effect_at caller moment old (op ∷ [])) (new ++ effect_at caller moment new (op ∷ []))
    next_by true puts_one judged =
        followed [] (ap (λ b. if b then [] else effect one) judged) (ap (λ b. if b then [] else effect (request_at caller moment new (op ∷ []))) (ap has_fault (sym same_judgement) ∙ judged))
        (ap (λ l. view_of l user Shared key) (append-nil old) ∙ alike.view ∙ sym (ap (λ l. view_of l user Shared key) (append-nil new)))
        (λ x there. ap (λ l. is_there (zone_at l key).rows x) (append-nil old) ∙ there ∙ sym (ap (λ l. is_there (zone_at l key).rows x) (append-nil new)))
    next_by false puts_one judged = followed (made puts_one judged) (made_old puts_one judged) (made_new puts_one judged) (same_view puts_one judged) (same_taken puts_one judged)

    next : is_deletion op.kind ≡ false → AreSeenAlike ops (old ++ effect_at caller moment old (op ∷ [])) (new ++ effect_at caller moment new (op ∷ []))
    next puts_one = next_by (has_fault (judgement_at caller moment old (op ∷ []))) puts_one refl

    first : op_sight caller moment old (op ∷ []) ≡ op_sight caller moment new (op ∷ [])
    first i = record { view = alike.view i; pasts = same_pasts i }

  pub each_put : (ops : List NamedOp) (old new : List Commit) → AreSeenAlike ops old new → deletes_before (map (λ (op : NamedOp). op.kind) ops) ≡ false → sights_of caller moment old ops ≡ sights_of caller moment new ops
  each_put [] old new alike none = refl
  each_put (op ∷ []) old new alike none = λ i. first op [] old new alike i ∷ []
  each_put (op ∷ later ∷ ops) old new alike none =
      let parts = or_parts (is_deletion op.kind) (deletes_before (map (λ (op : NamedOp). op.kind) (later ∷ ops))) none in
      λ i. (first op (later ∷ ops) old new alike i
      ∷ each_put (later ∷ ops) (old ++ effect_at caller moment old (op ∷ [])) (new ++ effect_at caller moment new (op ∷ [])) (next op (later ∷ ops) old new alike parts.0) parts.1 i)
