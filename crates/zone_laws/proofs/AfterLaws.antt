-- What the zone has under each name after the puts of a request, and after its commit.
use Rattle.std.proofs.Common.{◌≡◌, ℕ, List, [], ◌∷◌, Bool, true, false, cond, ◌&&◌, refl, sym, ap, ◌∙◌, subst, Some, None, Option}
use Rattle.std.specs.Prelude.{filter, filter_map, fold, option_map, if◌then◌else◌}
use Rattle.std.specs.Option.{option_map_or}
use Rattle.std.specs.List.{list_all}
use Rattle.std.proofs.lemmas.Bool.{both_ways, and_parts, or_parts}
use Rattle.std.proofs.lemmas.Option.{same_Some}
use Rattle.ck_base.specs.Order.{is_before, are_ascending}
use Rattle.record_model.specs.declared.records.Record.{Record}
use Rattle.record_model.specs.declared.records.Body.{Body}
use Rattle.record_model.specs.declared.records.Body.TheVariants.{Plain, Share}
use Rattle.zone_model.specs.declared.commits.Write.{Write}
use Rattle.zone_model.specs.Names.{is_in, is_shared}
use Rattle.name_rules.specs.Options.{or_else}
use Rattle.zone_model.specs.Records.{record_at, names_in, is_there, is_share, IsAscending, with_record}
use Rattle.zone_model.specs.Requests.{names_deleted, puts_in}
use Rattle.zone_model.specs.Zones.{after_write, written_name}
use Rattle.zone_model.specs.Working.{mark_of, with_puts}
use Rattle.zone_model.specs.Putting.{records_written}
use Rattle.zone_model.specs.Effect.{Request, working, body_without, is_put, is_left, after_leaving, after_puts, is_unmarked, is_written, final, write_of, writes}
use Rattle.name_rules.proofs.NameLemmas.{same-true}
use Rattle.zone_laws.proofs.OrderLaws.{ascending-some}
use Rattle.zone_laws.proofs.RecordLaws.{found-name, found-kept, found-dropped, found-map, found-below, found-with, found-after, found-fold, EachOnce, settled, left_by, none-some}
use Rattle.zone_laws.proofs.EffectLaws.{ascending-fold, names-map, leaving-name, write_by}

-- ---- records put one after another

some-map : (rows : List Record) → filter_map Some rows ≡ rows
some-map [] = refl
some-map (r ∷ rows) = ap (λ rs. r ∷ rs) (some-map rows)

some_named : (r u : Record) → Some r ≡ Some u → u.name ≡ r.name
some_named r u e = ap (λ (t : Record). t.name) (sym (same_Some r u e))

once_put : (rows : List Record) → IsAscending rows → EachOnce (λ (r : Record). r.name) Some with_record (λ (r : Record). r.name) Some found-with some_named rows
once_put [] ascend = tt
once_put (r ∷ rows) ascend = let parts = and_parts (list_all (is_before r.name) (names_in rows)) _ ascend in (found-below r.name rows parts.0, once_put rows parts.1)

settled_put : (i o : Option Record) → settled (λ (r : Record). r.name) Some with_record (λ (r : Record). r.name) Some found-with some_named i o ≡ or_else i o
settled_put None o = refl
settled_put (Some r) o = refl

-- records put over others are found first
pub found-over : (some rows : List Record) (x : List ℕ) → IsAscending some → record_at (fold with_record rows some) x ≡ or_else (record_at some x) (record_at rows x)
found-over some rows x ascend = ap (λ rs. record_at (fold with_record rows rs) x) (sym (some-map some))
    ∙ found-fold (λ (r : Record). r.name) Some with_record (λ (r : Record). r.name) Some found-with some_named some rows x (once_put some ascend)
    ∙ settled_put (record_at some x) (record_at rows x)

pub ascending-working : (q : Request) → IsAscending q.seen → IsAscending (working q)
ascending-working q ascend =
    let rows = with_puts q.seen q.ops in
    subst (λ names. are_ascending names ≡ true) (sym (names-map (λ (r : Record). record r { share = mark_of q.caller.scope q.seen q.ops rows r }) (λ r. refl) rows))
    (ascending-fold (records_written q.seen (puts_in q.ops)) q.seen ascend)

-- ---- after the puts

module _ (q : Request) (in_order : IsAscending q.seen) where
  put_step : (b : Bool) (x : List ℕ) → is_put q x ≡ b
      → or_else (record_at (filter (λ (r : Record). is_put q r.name) (working q)) x) (record_at q.rows x) ≡ (if b then or_else (record_at (working q) x) (record_at q.rows x) else record_at q.rows x)
  put_step true x is = ap (λ o. or_else o (record_at q.rows x)) (found-kept (is_put q) (working q) x is)
  put_step false x is = ap (λ o. or_else o (record_at q.rows x)) (found-dropped (is_put q) (working q) x is)

  -- what is put comes from the working view, and all else from the zone
  pub found-after-puts : (x : List ℕ) → record_at (after_puts q) x ≡ option_map (after_leaving q) (if is_put q x then or_else (record_at (working q) x) (record_at q.rows x) else record_at q.rows x)
  found-after-puts x =
      found-map (after_leaving q) (leaving-name q) (fold with_record q.rows (filter (λ (r : Record). is_put q r.name) (working q))) x
      ∙ ap (option_map (after_leaving q)) (found-over (filter (λ (r : Record). is_put q r.name) (working q)) q.rows x (ascending-some (λ (r : Record). is_put q r.name) (working q) (ascending-working q in_order))
      ∙ put_step (is_put q x) x refl)

-- ---- after the commit

module _ (q : Request) (gone : List (List ℕ)) where
  named_step : (goes written : Bool) (r : Record) (w : Write) → write_by q gone goes written r ≡ Some w → written_name w ≡ r.name
  named_step true true r w e = ap (λ o. option_map_or written_name o r.name) (sym e)
  named_step true false r w e = ap (λ o. option_map_or written_name o r.name) (sym e)
  named_step false true r w e = ap (λ o. option_map_or written_name o r.name) (sym e)
  named_step false false r w e = absurd (both_ways false refl (ap (λ o. option_map_or (λ _. true) o false) e))

  pub write_named : (r : Record) (w : Write) → write_of q gone r ≡ Some w → written_name w ≡ r.name
  write_named r w e = named_step (is_in gone r.name) (is_written q gone r) r w e

  once_written : (rows : List Record) → IsAscending rows → EachOnce (λ (r : Record). r.name) (write_of q gone) after_write written_name left_by found-after write_named rows
  once_written [] ascend = tt
  once_written (r ∷ rows) ascend = let parts = and_parts (list_all (is_before r.name) (names_in rows)) _ ascend in (found-below r.name rows parts.0, once_written rows parts.1)

  -- what a write makes of what was there
  abbrev pub left_over : Option Record → Option Record → Option Record
  left_over None o = o
  left_over (Some r) o = option_map_or left_by (write_of q gone r) o

  settled_left : (i o : Option Record) → settled (λ (r : Record). r.name) (write_of q gone) after_write written_name left_by found-after write_named i o ≡ left_over i o
  settled_left None o = refl
  settled_left (Some r) o = refl

  pub found-commit : (x : List ℕ) → IsAscending (after_puts q) → record_at (fold after_write q.rows (writes q gone)) x ≡ left_over (record_at (after_puts q) x) (record_at q.rows x)
  found-commit x ascend = found-fold (λ (r : Record). r.name) (write_of q gone) after_write written_name left_by found-after write_named (after_puts q) q.rows x (once_written (after_puts q) ascend)
      ∙ settled_left (record_at (after_puts q) x) (record_at q.rows x)

  -- a record as it stands after the commit
  abbrev pub settle : Record → Record
  settle r = if is_written q gone r then final q gone r else r

  settle_step : (b : Bool) (r : Record) → ((if b then final q gone r else r).name ≡ r.name)
  settle_step true r = refl
  settle_step false r = refl

  pub settle-name : (r : Record) → (settle r).name ≡ r.name
  settle-name r = settle_step (is_written q gone r) r

  parent_step : (b : Bool) (r : Record) → ((if b then final q gone r else r).parent ≡ r.parent)
  parent_step true r = refl
  parent_step false r = refl

  pub settle-parent : (r : Record) → (settle r).parent ≡ r.parent
  settle-parent r = parent_step (is_written q gone r) r

  body_step : (b : Bool) (r : Record) → ((if b then final q gone r else r).body ≡ r.body)
  body_step true r = refl
  body_step false r = refl

  pub settle-body : (r : Record) → (settle r).body ≡ r.body
  settle-body r = body_step (is_written q gone r) r

  fields_step : (b : Bool) (r : Record) → ((if b then final q gone r else r).fields ≡ r.fields)
  fields_step true r = refl
  fields_step false r = refl

  pub settle-fields : (r : Record) → (settle r).fields ≡ r.fields
  settle-fields r = fields_step (is_written q gone r) r

  share_step : (b : Bool) (r : Record) → is_written q gone r ≡ b → (if b then final q gone r else r).share ≡ (if is_unmarked q gone r then None else r.share)
  share_step true r is = refl
  share_step false r is = sym (ap (λ u. if u then None else r.share) (or_parts (is_left q r) (is_unmarked q gone r) (or_parts (is_put q r.name) _ is).1).1)

  pub settle-share : (r : Record) → (settle r).share ≡ (if is_unmarked q gone r then None else r.share)
  settle-share r = share_step (is_written q gone r) r refl

-- ---- who leaves

same_kind : (u : List ℕ) (b : Body) (r : Record) → r.body ≡ b → is_share (record r { body = body_without u b }) ≡ is_share r
same_kind u Plain r is = ap (λ c. is_share (record r { body = c })) (sym is)
same_kind u (Share s) r is = sym (ap (λ c. is_share (record r { body = c })) is)

-- whoever leaves a share is not in it, but it stays a share
pub leaving-kind : (q : Request) (r : Record) → is_share (after_leaving q r) ≡ is_share r
leaving-kind q r = by (is_left q r)
  where
    by : (b : Bool) → is_share (if b then record r { body = body_without q.caller.user r.body } else r) ≡ is_share r
    by true = same_kind q.caller.user r.body r refl
    by false = refl

-- a record is left as long as its kind stays
pub left_same : (q : Request) (r : Record) → is_left q (after_leaving q r) ≡ is_left q r
left_same q r = ap (λ x. is_shared q.caller.scope && (is_in (names_deleted q.ops) x && (is_share (after_leaving q r) && is_there q.seen x))) (leaving-name q r)
    ∙ ap (λ b. is_shared q.caller.scope && (is_in (names_deleted q.ops) r.name && (b && is_there q.seen r.name))) (leaving-kind q r)

pub stays-left : (q : Request) (r : Record) → is_left q (after_leaving q r) ≡ false → after_leaving q r ≡ r
stays-left q r e = ap (λ b. if b then record r { body = body_without q.caller.user r.body } else r) (sym (left_same q r) ∙ e)

-- ---- what stands under a name after the commit

module _ (q : Request) (gone : List (List ℕ)) (in_order : IsAscending q.seen) where
  is_some_of : Option Record → Bool
  is_some_of o = option_map_or (λ _. true) o false

  has_step : (b : Bool) (w : Option Record) (z : Record) → option_map (after_leaving q) (if b then or_else w (Some z) else Some z) ≡ None → ⊥
  has_step true None z e = none-some None (after_leaving q z) refl (sym e)
  has_step true (Some w) z e = none-some None (after_leaving q w) refl (sym e)
  has_step false w z e = none-some None (after_leaving q z) refl (sym e)

  -- a name of the zone is still there after the puts
  pub still-there : (x : List ℕ) (z : Record) → record_at q.rows x ≡ Some z → record_at (after_puts q) x ≡ None → ⊥
  still-there x z is none = has_step (is_put q x) (record_at (working q) x) z
      (ap (λ o. option_map (after_leaving q) (if is_put q x then or_else (record_at (working q) x) o else o)) (sym is) ∙ sym (found-after-puts q in_order x) ∙ none)

  none_step : (o : Option Record) (x : List ℕ) → record_at q.rows x ≡ o → record_at (after_puts q) x ≡ None → o ≡ None
  none_step None x is none = refl
  none_step (Some z) x is none = absurd (still-there x z is none)

  pub not-there : (x : List ℕ) → record_at (after_puts q) x ≡ None → record_at q.rows x ≡ None
  not-there x none = none_step (record_at q.rows x) x refl none

  unput_step : (o : Option Record) (x : List ℕ) (a : Record) → record_at q.rows x ≡ o → option_map (after_leaving q) o ≡ Some a → is_left q a ≡ false → o ≡ Some a
  unput_step None x a is e off = absurd (none-some None a refl e)
  unput_step (Some z) x a is e off =
      let one : after_leaving q z ≡ a = same_Some (after_leaving q z) a e in
      ap Some (sym (stays-left q z (subst (λ (r : Record). is_left q r ≡ false) (sym one) off)) ∙ one)

  -- a record that is not written is the zone's
  pub unwritten : (x : List ℕ) (a : Record) → record_at (after_puts q) x ≡ Some a → is_written q gone a ≡ false → record_at q.rows x ≡ Some a
  unwritten x a at off =
      let name : x ≡ a.name = same-true x a.name (found-name (after_puts q) x a at) in
      let parts = or_parts (is_put q a.name) _ off in
      let unput : is_put q x ≡ false = subst (λ y. is_put q y ≡ false) (sym name) parts.0 in
      unput_step (record_at q.rows x) x a refl
      (ap (λ b. option_map (after_leaving q) (if b then or_else (record_at (working q) x) (record_at q.rows x) else record_at q.rows x)) (sym unput) ∙ sym (found-after-puts q in_order x) ∙ at)
      (or_parts (is_left q a) (is_unmarked q gone a) parts.1).0

  commit_step : (goes written : Bool) (a : Record) (o : Option Record) → (written ≡ false → o ≡ Some a)
      → option_map_or left_by (write_by q gone goes written a) o ≡ cond goes None (Some (if written then final q gone a else a))
  commit_step true true a o stays = refl
  commit_step true false a o stays = refl
  commit_step false true a o stays = refl
  commit_step false false a o stays = stays refl

  -- it is gone, or stands as it is settled
  pub found-settled : (x : List ℕ) (a : Record) → IsAscending (after_puts q) → record_at (after_puts q) x ≡ Some a
      → record_at (fold after_write q.rows (writes q gone)) x ≡ cond (is_in gone x) None (Some (settle q gone a))
  found-settled x a ascend at =
      let name : x ≡ a.name = same-true x a.name (found-name (after_puts q) x a at) in
      found-commit q gone x ascend ∙ ap (λ i. left_over q gone i (record_at q.rows x)) at
      ∙ commit_step (is_in gone a.name) (is_written q gone a) a (record_at q.rows x) (unwritten x a at)
      ∙ ap (λ y. cond (is_in gone y) None (Some (settle q gone a))) (sym name)

  -- and what was not there is not there
  pub found-nothing : (x : List ℕ) → IsAscending (after_puts q) → record_at (after_puts q) x ≡ None → record_at (fold after_write q.rows (writes q gone)) x ≡ None
  found-nothing x ascend none = found-commit q gone x ascend ∙ ap (λ i. left_over q gone i (record_at q.rows x)) none ∙ not-there x none
