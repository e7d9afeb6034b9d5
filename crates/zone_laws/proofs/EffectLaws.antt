-- What a request commits.
use Rattle.std.proofs.Common.{◌≡◌, ℕ, suc, List, [], ◌∷◌, Bool, true, false, refl, sym, ap, ◌∙◌, subst, Option, map}
use Rattle.std.specs.Prelude.{◌==◌, filter, filter_map, fold, if◌then◌else◌}
use Rattle.std.specs.List.{list_all, cons_option}
use Rattle.std.proofs.lemmas.Bool.{eqb-true, and_parts, and_from, eq-eqb}
use Rattle.ck_base.specs.Order.{is_before, are_ascending}
use Rattle.record_model.specs.declared.records.Record.{Record}
use Rattle.zone_model.specs.declared.commits.Write.{Write}
use Rattle.zone_model.specs.declared.commits.Write.TheVariants.{Put, Remove, PutRemove}
use Rattle.zone_model.specs.Names.{is_in}
use Rattle.zone_model.specs.Records.{names_in, IsAscending, with_record}
use Rattle.zone_model.specs.Zones.{written_name}
use Rattle.zone_model.specs.Effect.{writes, Request, working, is_put, is_left, after_leaving, body_without, after_puts, is_written, final, write_as, write_of}
use Rattle.zone_model.specs.Form.{are_in_order}
use Rattle.zone_model.specs.Modifying.{request_at}
use Rattle.zone_laws.specs.LawfulTests.{has_next_tag}
use Rattle.zone_laws.specs.Laws.{EffectsAreInOrder, HasNextTag}
use Rattle.zone_laws.proofs.OrderLaws.{ascending-with, ascending-zone}
use Rattle.zone_laws.proofs.TestLaws.{all_so}

-- ---- the records after the puts ascend

pub ascending-fold : (some rows : List Record) → IsAscending rows → IsAscending (fold with_record rows some)
ascending-fold [] rows ascend = ascend
ascending-fold (r ∷ some) rows ascend = ascending-fold some (with_record rows r) (ascending-with rows r ascend)

pub names-map : (f : Record → Record) → ((r : Record) → (f r).name ≡ r.name) → (rows : List Record) → names_in (map f rows) ≡ names_in rows
names-map f keeps [] = refl
names-map f keeps (r ∷ rows) = ap (λ x. x ∷ names_in (map f rows)) (keeps r) ∙ ap (λ xs. r.name ∷ xs) (names-map f keeps rows)

left_step : (q : Request) (b : Bool) (r : Record) → (if b then record r { body = body_without q.caller.user r.body } else r).name ≡ r.name
left_step q true r = refl
left_step q false r = refl

pub leaving-name : (q : Request) (r : Record) → (after_leaving q r).name ≡ r.name
leaving-name q r = left_step q (is_left q r) r

pub ascending-puts : (q : Request) → IsAscending q.rows → IsAscending (after_puts q)
ascending-puts q ascend =
    let some = fold with_record q.rows (filter (λ (r : Record). is_put q r.name) (working q)) in
    subst (λ names. are_ascending names ≡ true) (sym (names-map (after_leaving q) (leaving-name q) some))
    (ascending-fold (filter (λ (r : Record). is_put q r.name) (working q)) q.rows ascend)

-- ---- each write has the name of its record

module _ (q : Request) (gone : List (List ℕ)) where
  abbrev pub write_by : Bool → Bool → Record → Option Write
  write_by goes written r = write_as goes written (final q gone r)

  all_step : (goes written : Bool) (p : List ℕ → Bool) (r : Record) (ws : List Write) → p r.name ≡ true → list_all p (map written_name ws) ≡ true
      → list_all p (map written_name (cons_option (write_by goes written r) ws)) ≡ true
  all_step true true p r ws one all = and_from (p r.name) _ one all
  all_step true false p r ws one all = and_from (p r.name) _ one all
  all_step false true p r ws one all = and_from (p r.name) _ one all
  all_step false false p r ws one all = all

  all_written : (p : List ℕ → Bool) (rows : List Record) → list_all p (names_in rows) ≡ true → list_all p (map written_name (filter_map (write_of q gone) rows)) ≡ true
  all_written p [] all = refl
  all_written p (r ∷ rows) all =
      let parts = and_parts (p r.name) _ all in
      all_step (is_in gone r.name) (is_written q gone r) p r (filter_map (write_of q gone) rows) parts.0 (all_written p rows parts.1)

  order_step : (goes written : Bool) (r : Record) (ws : List Write) → list_all (is_before r.name) (map written_name ws) ≡ true → are_in_order ws ≡ true
      → are_in_order (cons_option (write_by goes written r) ws) ≡ true
  order_step true true r ws all ascend = and_from (list_all (is_before r.name) (map written_name ws)) _ all ascend
  order_step true false r ws all ascend = and_from (list_all (is_before r.name) (map written_name ws)) _ all ascend
  order_step false true r ws all ascend = and_from (list_all (is_before r.name) (map written_name ws)) _ all ascend
  order_step false false r ws all ascend = ascend

  writes_ascend : (rows : List Record) → IsAscending rows → are_in_order (filter_map (write_of q gone) rows) ≡ true
  writes_ascend [] ascend = refl
  writes_ascend (r ∷ rows) ascend =
      let parts = and_parts (list_all (is_before r.name) (names_in rows)) _ ascend in
      order_step (is_in gone r.name) (is_written q gone r) r (filter_map (write_of q gone) rows) (all_written (is_before r.name) rows parts.0) (writes_ascend rows parts.1)

  tag_step : (goes written : Bool) (r : Record) (ws : List Write) → list_all (has_next_tag q.puts) ws ≡ true → list_all (has_next_tag q.puts) (cons_option (write_by goes written r) ws) ≡ true
  tag_step true true r ws all = all
  tag_step true false r ws all = all
  tag_step false true r ws all = and_from (suc (q.puts r.name) == suc (q.puts r.name)) _ (eq-eqb (suc (q.puts r.name)) (suc (q.puts r.name)) refl) all
  tag_step false false r ws all = all

  pub tags_next : (rows : List Record) → list_all (has_next_tag q.puts) (filter_map (write_of q gone) rows) ≡ true
  tags_next [] = refl
  tags_next (r ∷ rows) = tag_step (is_in gone r.name) (is_written q gone r) r (filter_map (write_of q gone) rows) (tags_next rows)

next_tag : (puts : List ℕ → ℕ) (w : Write) → has_next_tag puts w ≡ true → HasNextTag puts w
next_tag puts (Put r) e = eqb-true r.tag (suc (puts r.name)) e
next_tag puts (Remove x) e = tt
next_tag puts (PutRemove x) e = tt

pub effects_in_order : EffectsAreInOrder
effects_in_order = record {
  ordered = λ caller moment log ops gone.
      let q = request_at caller moment log ops in
      writes_ascend q gone (after_puts q) (ascending-puts q (ascending-zone log caller.key));
  tagged = λ q gone. all_so (has_next_tag q.puts) (HasNextTag q.puts) (writes q gone) (next_tag q.puts) (tags_next q gone (after_puts q));
}
