-- Creations of records that stand alone: they delete nothing, give no root, and stay so with a name.
use Rattle.std.proofs.Common.{◌≡◌, ℕ, suc, List, [], ◌∷◌, ◌++◌, true, false, not, ◌&&◌, refl, ap, ◌∙◌, Some, None, Option, length}
use Rattle.std.specs.Prelude.{drop, is_none, is_some, filter_map, if◌then◌else◌}
use Rattle.std.specs.Option.{option_map_or}
use Rattle.std.specs.List.{list_all, cons_option, AllByRecursion}
use Rattle.std.proofs.lemmas.Bool.{both_ways, and_parts, and_from}
use Rattle.ck_base.specs.declared.key.ZoneKey.{ZoneKey}
use Rattle.record_model.specs.declared.draft.Draft.{Draft}
use Rattle.record_model.specs.declared.draft.ForRoot.{ForRoot}
use Rattle.zone_model.specs.declared.operations.OpKind.{OpKind}
use Rattle.zone_model.specs.declared.operations.OpKind.TheVariants.{Create, Update, ForceUpdate, Replace, ForceReplace, Delete, ForceDelete}
use Rattle.zone_model.specs.declared.operations.Op.{Op}
use Rattle.zone_model.specs.Requests.{NamedOp, is_create, is_deletion, puts_in, roots_in, root_given, has_share_type}
use Rattle.plain_creates.specs.PlainCreates.{gives_no_parent, gives_no_share, is_plain_draft, is_plain_create, is_plain_named}
use Rattle.drawn_names.specs.Drawing.{draws_name, one_if, guid_of_word, drawn_guid, first_word, words_after}
use Rattle.board_model.specs.Asks.{ops_at}

pub all_joined : {X : Type 0} (P : X → Type 0) (xs ys : List X) → AllByRecursion P xs → AllByRecursion P ys → AllByRecursion P (xs ++ ys)
all_joined P [] ys some more = more
all_joined P (x ∷ xs) ys some more = (some.0, all_joined P xs ys some.1 more)

pub all_weaker : {X : Type 0} (P Q : X → Type 0) (xs : List X) → ((x : X) → P x → Q x) → AllByRecursion P xs → AllByRecursion Q xs
all_weaker P Q [] on all = tt
all_weaker P Q (x ∷ xs) on all = (on x all.0, all_weaker P Q xs on all.1)

-- ---- one creation

of_create : (kind : OpKind) → is_create kind ≡ true → is_deletion kind ≡ false
of_create Create e = refl
of_create Update e = refl
of_create ForceUpdate e = refl
of_create Replace e = refl
of_create ForceReplace e = refl
of_create Delete e = absurd (both_ways false refl e)
of_create ForceDelete e = absurd (both_ways false refl e)

pub no_deletion : (kind : OpKind) (d : Draft) → (is_create kind && is_plain_draft d) ≡ true → is_deletion kind ≡ false
no_deletion kind d plain = of_create kind (and_parts (is_create kind) _ plain).0

none_is : (o : Option ForRoot) → is_none o ≡ true → o ≡ None
none_is None e = refl
none_is (Some f) e = absurd (both_ways false refl e)

no_root : (kind : OpKind) (d : Draft) → (is_create kind && is_plain_draft d) ≡ true → d.for_root ≡ None
no_root kind d plain =
    let of_draft = (and_parts (is_create kind) _ plain).1 in
    let beside = (and_parts (gives_no_parent d.parent) _ of_draft).1 in
    let share = (and_parts (gives_no_share d) _ beside).0 in
    let roots = (and_parts (not (has_share_type d)) _ share).1 in
    none_is d.for_root (and_parts (is_none d.for_root) _ roots).0

no_root_given : (kind : OpKind) (d : Draft) → (is_create kind && is_plain_draft d) ≡ true → root_given d ≡ None
no_root_given kind d plain = ap (λ (o : Option ForRoot). option_map_or (λ (f : ForRoot). Some f.name) o None) (no_root kind d plain)

-- it draws no GUID
pub no_guid : (lock : ℕ) (op : Op) (words : List (List ℕ)) → is_plain_create op ≡ true → drawn_guid lock op words ≡ []
no_guid lock op words plain i =
    if not (no_deletion op.kind op.draft plain i) && is_some (no_root op.kind op.draft plain i) then guid_of_word lock (first_word (drop (one_if (draws_name op)) words)) else []

-- ---- all of them

-- no operation gives a root
pub no_roots : (ops : List NamedOp) → list_all is_plain_named ops ≡ true → roots_in ops ≡ []
no_roots [] plain = refl
no_roots (op ∷ ops) plain =
    let parts = and_parts (is_plain_named op) _ plain in
    ap (λ b. filter_map (λ (p : NamedOp). root_given p.draft) (if not b then op ∷ puts_in ops else puts_in ops)) (no_deletion op.kind op.draft parts.0)
    ∙ ap (λ o. cons_option o (roots_in ops)) (no_root_given op.kind op.draft parts.0)
    ∙ no_roots ops parts.1

pub plain_named : (key : ZoneKey) (ops : List Op) (words : List (List ℕ)) → list_all is_plain_create ops ≡ true → list_all is_plain_named (ops_at key ops words) ≡ true
plain_named key [] words plain = refl
plain_named key (op ∷ ops) words plain =
    let parts = and_parts (is_plain_create op) _ plain in
    and_from (is_plain_create op) _ parts.0 (plain_named key ops (words_after op words) parts.1)

pub length_named : (key : ZoneKey) (ops : List Op) (words : List (List ℕ)) → length (ops_at key ops words) ≡ length ops
length_named key [] words = refl
length_named key (op ∷ ops) words = ap suc (length_named key ops (words_after op words))
