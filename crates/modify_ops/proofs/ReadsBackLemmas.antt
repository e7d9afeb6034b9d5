-- Reading what was written.
use Rattle.std.proofs.Common.{◌≡◌, ◌≤◌, ℕ, suc, ◌||◌, true, List, [], ◌∷◌, length, map, Option, None, Some, is_some, refl, sym, ap, subst, ◌∙◌}
use Rattle.std.specs.Prelude.{Ok}
use Rattle.std.specs.List.{AllByRecursion}
use Rattle.std.specs.Result.{result_ok}
use Rattle.std.proofs.lemmas.Bool.{le-ltb}
use Rattle.std.proofs.lemmas.List.{length-map}
use Rattle.ck_base.specs.Names.{IsName}
use Rattle.ck_base.specs.declared.key.ZoneKey.{ZoneKey}
use Rattle.field_values.proofs.ListLemmas.{elements_items}
use Rattle.record_model.specs.declared.draft.Draft.{Draft}
use Rattle.ck_records.specs.DraftWriting.{draft_data}
use Rattle.ck_records.proofs.ReadsBackLemmas.{name_told, drafts_read_back}
use Rattle.zone_model.specs.declared.operations.OpKind.{OpKind}
use Rattle.zone_model.specs.declared.operations.OpKind.TheVariants.{Create, Update, ForceUpdate, Replace, ForceReplace, Delete, ForceDelete}
use Rattle.zone_model.specs.declared.operations.Op.{Op}
use Rattle.zone_model.specs.Requests.{is_create}
use Rattle.zone_model.specs.Limits.{most_items}
use Rattle.modify_ops.specs.Forms.{deletion_of, draft_as, op_from, op_of, ops_from}
use Rattle.modify_ops.specs.Reading.{within}
use Rattle.modify_ops.specs.Writing.{op_data}
use Rattle.zone_model.specs.OpForms.{bare, IsBare, IsMeantAs, IsMeantOp, AreMeantOps}
use Rattle.modify_ops.specs.RoundTrip.{OpsReadBack, RequestsReadBack}

bare_reads : (name : List ℕ) (tag : Option (List ℕ)) → IsName name → deletion_of (draft_data (bare name tag)) ≡ Some (bare name tag)
bare_reads name None is = rw (name_told name is) refl
bare_reads name (Some tag) is = rw (name_told name is) refl

deletion_reads : (d : Draft) → IsBare d → deletion_of (draft_data d) ≡ Some d
deletion_reads d is = subst (λ e. deletion_of (draft_data e) ≡ Some e) (sym is.is) (bare_reads is.given d.tag is.name)

module _ (here : ZoneKey) (caller : List ℕ) where
  draft_reads : (kind : OpKind) (d : Draft) → IsMeantAs kind d → draft_as here caller kind (draft_data d) ≡ Some d
  draft_reads Create d is = ap result_ok (drafts_read_back here caller d is)
  draft_reads Update d is = ap result_ok (drafts_read_back here caller d is)
  draft_reads ForceUpdate d is = ap result_ok (drafts_read_back here caller d is)
  draft_reads Replace d is = ap result_ok (drafts_read_back here caller d is)
  draft_reads ForceReplace d is = ap result_ok (drafts_read_back here caller d is)
  draft_reads Delete d is = deletion_reads d is
  draft_reads ForceDelete d is = deletion_reads d is

  from_draft : (kind : OpKind) (o : Option Draft) (d : Draft) → o ≡ Some d → (is_create kind || is_some d.name) ≡ true → op_from kind o ≡ Some (record { kind = kind; draft = d })
  from_draft kind o d is named = rw (is, named) refl

  kind_reads : (kind : OpKind) (d : Draft) → op_of here caller (op_data (record { kind = kind; draft = d })) ≡ op_from kind (draft_as here caller kind (draft_data d))
  kind_reads Create d = refl
  kind_reads Update d = refl
  kind_reads ForceUpdate d = refl
  kind_reads Replace d = refl
  kind_reads ForceReplace d = refl
  kind_reads Delete d = refl
  kind_reads ForceDelete d = refl

  op_reads : (op : Op) → IsMeantOp op → op_of here caller (op_data op) ≡ Some op
  op_reads op is = kind_reads op.kind op.draft ∙ from_draft op.kind _ op.draft (draft_reads op.kind op.draft is.draft) is.named

  each_reads : (place : ℕ) (ops : List Op) → AllByRecursion IsMeantOp ops → ops_from here caller place (map op_data ops) ≡ Ok ops
  each_reads place [] all = refl
  each_reads place (op ∷ ops) all = rw (op_reads op all.0, each_reads (suc place) ops all.1) refl

pub ops_read_back : OpsReadBack
ops_read_back here caller ops all = ap (ops_from here caller 0) (elements_items (map op_data ops)) ∙ each_reads here caller 0 ops all

request_reads : (here : ZoneKey) (caller : List ℕ) (ops : List Op) → AreMeantOps ops → within here caller (map op_data ops) ≡ Ok ops
request_reads here caller ops are =
    let few : length (map op_data ops) ≤ most_items = subst (λ n. n ≤ most_items) (sym (length-map ops op_data)) are.few in
    rw (le-ltb most_items (length (map op_data ops)) few, each_reads here caller 0 ops are.meant, are.once) refl

pub requests_read_back : RequestsReadBack
requests_read_back here caller ops are = ap (within here caller) (elements_items (map op_data ops)) ∙ request_reads here caller ops are
