-- The rules at worked examples; each of the logs is shown to be lawful too.
use Rattle.std.proofs.Common.{◌≡◌, ℕ, List, [], ◌∷◌, ◌++◌, Some, None, refl, true, false, length, Option, map}
use Rattle.std.specs.Prelude.{codes, option_map, option_and_then}
use Rattle.std.specs.Fmt.{digits}
use Rattle.ck_base.specs.declared.scope.Scope.TheVariants.{Private, Shared}
use Rattle.share_records.specs.declared.permission.Permission.TheVariants.{Nothing, ReadOnly, ReadWrite}
use Rattle.share_records.specs.declared.participant.Participant.{Participant}
use Rattle.share_records.specs.declared.share.Share.{Share as ShareOf}
use Rattle.record_model.specs.declared.draft.ParentWish.TheVariants.{Null, To}
use Rattle.record_model.specs.declared.records.Record.{Record}
use Rattle.ck_base.specs.declared.key.ZoneKey.{ZoneKey}
use Rattle.record_model.specs.declared.subscription.Fires.{Fires}
use Rattle.record_model.specs.declared.subscription.SubKind.{SubKind}
use Rattle.record_model.specs.declared.subscription.Subscription.{Subscription}
use Rattle.zone_model.specs.Requests.{NamedOp}
use Rattle.zone_model.specs.declared.outcomes.OpFault.TheVariants.{Exists, NotFound, Conflict, BadRequest, AccessDenied, Validating, Atomic}
use Rattle.zone_model.specs.declared.commits.Act.{Act}
use Rattle.zone_model.specs.declared.commits.Act.TheVariants.{MakeZone, DropZone, SetSubscription, DropSubscription}
use Rattle.zone_model.specs.declared.commits.Commit.{Commit}
use Rattle.ck_base.specs.KnownNames.{default_zone}
use Rattle.zone_model.specs.Requests.{Caller}
use Rattle.zone_model.specs.Subscriptions.{subscriptions_of}
use Rattle.zone_model.specs.Modifying.{modified}
use Rattle.zone_model.specs.Records.{record_at, share_of}
use Rattle.zone_model.specs.Zones.{zone_at}
use Rattle.zone_model.specs.Views.{view_of, views_of, was_seen}
use Rattle.zone_model.specs.Pages.{page}
use Rattle.zone_laws.specs.Copies.{fold_page}
use Rattle.zone_laws.specs.LawfulTests.{are_lawful}
use Rattle.zone_model.specs.WorkBounds.{commit_bound}
use Rattle.zone_rows.proofs.RowWords.{ann, bob, cat, dan, notes, create, create_under, update, update_with, delete, force_delete, invited, create_share, set_participants, set_public, act, made, link, asked_by, asks, asks_shared, acceptance, accepts, permission_at, entries_of, told_ann, put, gone, refused, shown, told, seen, page_of, feed_of, op_of, draft, share_draft, act_at, last_of}

abbrev a : List ℕ
a = codes "a"

abbrev b : List ℕ
b = codes "b"

abbrev c : List ℕ
c = codes "c"

abbrev d : List ℕ
d = codes "d"

abbrev e : List ℕ
e = codes "e"

abbrev h : List ℕ
h = codes "h"

abbrev k : List ℕ
k = codes "k"

abbrev p : List ℕ
p = codes "p"

abbrev q : List ℕ
q = codes "q"

abbrev r : List ℕ
r = codes "r"

abbrev s : List ℕ
s = codes "s"

abbrev x : List ℕ
x = codes "x"

abbrev y : List ℕ
y = codes "y"

abbrev z : List ℕ
z = codes "z"

abbrev sr : List ℕ
sr = codes "sr"

abbrev sx : List ℕ
sx = codes "sx"

-- ---- three updates with one stale tag

abbrev three : List Commit
three = asks made (create a ∷ create b ∷ create c ∷ [])

pub three_is_lawful : are_lawful [] three ≡ true
unfolding digits
three_is_lawful = refl

abbrev one_stale : List NamedOp
one_stale = update a 1 ∷ update b 0 ∷ update c 1 ∷ []

pub all_are_refused : told (asked_by ann Private three true one_stale) ≡ refused Atomic ∷ shown Conflict b 1 ∷ refused Atomic ∷ []
unfolding digits
all_are_refused = refl

pub nothing_is_committed : (asked_by ann Private three true one_stale).commits ≡ []
unfolding digits
nothing_is_committed = refl

pub three_stay : seen three ann Private ≡ (a, 1) ∷ (b, 1) ∷ (c, 1) ∷ []
unfolding digits
three_stay = refl

pub one_is_refused : told (asked_by ann Private three false one_stale) ≡ put a 2 ∷ shown Conflict b 1 ∷ put c 2 ∷ []
unfolding digits
one_is_refused = refl

pub two_are_committed : length (asked_by ann Private three false one_stale).commits ≡ 2
unfolding digits
two_are_committed = refl

abbrev two_changed : List Commit
two_changed = three ++ (asked_by ann Private three false one_stale).commits

pub two_have_changed : seen two_changed ann Private ≡ (a, 2) ∷ (b, 1) ∷ (c, 2) ∷ []
unfolding digits
two_have_changed = refl

pub two_changed_is_lawful : are_lawful [] two_changed ≡ true
unfolding digits
two_changed_is_lawful = refl

-- ---- a second life of a record

abbrev one : List Commit
one = asks made (create a ∷ [])

pub one_is_lawful : are_lawful [] one ≡ true
unfolding digits
one_is_lawful = refl

pub one_deleted_is_lawful : are_lawful [] (asks one (delete a 1 ∷ [])) ≡ true
unfolding digits
one_deleted_is_lawful = refl

pub one_goes : told (asked_by ann Private one true (delete a 1 ∷ [])) ≡ gone a ∷ []
unfolding digits
one_goes = refl

abbrev again : List Commit
again = asks (asks one (delete a 1 ∷ [])) (create a ∷ [])

pub it_is_made_again : told_ann (asks one (delete a 1 ∷ [])) (create a ∷ []) ≡ put a 2 ∷ []
unfolding digits
it_is_made_again = refl

pub tags_count_on : seen again ann Private ≡ (a, 2) ∷ []
unfolding digits
tags_count_on = refl

pub first_tag_is_stale : told (asked_by ann Private again true (update a 1 ∷ [])) ≡ shown Conflict a 2 ∷ []
unfolding digits
first_tag_is_stale = refl

pub again_is_lawful : are_lawful [] again ≡ true
unfolding digits
again_is_lawful = refl

-- ---- a second life of a zone

abbrev zone_again : List Commit
zone_again = asks (one ++ act DropZone ∷ act MakeZone ∷ []) (create a ∷ [])

pub tags_outlive_zones : seen zone_again ann Private ≡ (a, 2) ∷ []
unfolding digits
tags_outlive_zones = refl

pub zone_again_is_lawful : are_lawful [] zone_again ≡ true
unfolding digits
zone_again_is_lawful = refl

-- ---- children before parents

pub parent_may_follow : told (asked_by ann Private made true (create_under k p ∷ create p ∷ [])) ≡ put k 1 ∷ put p 1 ∷ []
unfolding digits
parent_may_follow = refl

pub both_are_there : seen (asks made (create_under k p ∷ create p ∷ [])) ann Private ≡ (k, 1) ∷ (p, 1) ∷ []
unfolding digits
both_are_there = refl

pub both_are_lawful : are_lawful [] (asks made (create_under k p ∷ create p ∷ [])) ≡ true
unfolding digits
both_are_lawful = refl

pub parent_is_missing : told (asked_by ann Private made false (create_under k p ∷ create p ∷ [])) ≡ refused Validating ∷ put p 1 ∷ []
unfolding digits
parent_is_missing = refl

pub parent_alone_is_there : seen (made ++ (asked_by ann Private made false (create_under k p ∷ create p ∷ [])).commits) ann Private ≡ (p, 1) ∷ []
unfolding digits
parent_alone_is_there = refl

pub parent_alone_is_lawful : are_lawful [] (made ++ (asked_by ann Private made false (create_under k p ∷ create p ∷ [])).commits) ≡ true
unfolding digits
parent_alone_is_lawful = refl

-- ---- parents and removal

abbrev chain : List Commit
chain = asks made (create a ∷ create_under b a ∷ create_under c b ∷ [])

pub chain_is_lawful : are_lawful [] chain ≡ true
unfolding digits
chain_is_lawful = refl

pub parent_is_not_turned : told (asked_by ann Private chain true (update_with b 1 (To c) ∷ [])) ≡ refused BadRequest ∷ []
unfolding digits
parent_is_not_turned = refl

pub parent_is_not_cleared : told (asked_by ann Private chain true (update_with b 1 Null ∷ [])) ≡ refused BadRequest ∷ []
unfolding digits
parent_is_not_cleared = refl

pub parent_may_be_resent : told (asked_by ann Private chain true (update_with b 1 (To a) ∷ [])) ≡ put b 2 ∷ []
unfolding digits
parent_may_be_resent = refl

pub resent_is_put : seen (asks chain (update_with b 1 (To a) ∷ [])) ann Private ≡ (a, 1) ∷ (b, 2) ∷ (c, 1) ∷ []
unfolding digits
resent_is_put = refl

pub resent_is_lawful : are_lawful [] (asks chain (update_with b 1 (To a) ∷ [])) ≡ true
unfolding digits
resent_is_lawful = refl

pub ring_is_refused : told (asked_by ann Private made true (create_under p q ∷ create_under q p ∷ [])) ≡ refused Validating ∷ refused Validating ∷ []
unfolding digits
ring_is_refused = refl

pub ring_is_not_committed : (asked_by ann Private made true (create_under p q ∷ create_under q p ∷ [])).commits ≡ []
unfolding digits
ring_is_not_committed = refl

pub child_holds_back : told (asked_by ann Private chain true (delete a 1 ∷ [])) ≡ refused Validating ∷ []
unfolding digits
child_holds_back = refl

pub held_back_is_not_committed : (asked_by ann Private chain true (delete a 1 ∷ [])).commits ≡ []
unfolding digits
held_back_is_not_committed = refl

-- ---- a share accepted and paged

abbrev shared : List Commit
shared = asks (asks made (create r ∷ [])) (create_share s r 1 (invited bob ReadOnly ∷ []) ∷ [])

pub shared_is_lawful : are_lawful [] shared ≡ true
unfolding digits
shared_is_lawful = refl

abbrev link_at : List Commit → List ℕ → Option (List ℕ)
link_at log name = option_map (λ (t : ShareOf). t.guid) (option_and_then share_of (record_at (zone_at log notes).rows name))

abbrev mark_at : List Commit → List ℕ → Option (List ℕ)
mark_at log name = option_and_then (λ (row : Record). row.share) (record_at (zone_at log notes).rows name)

pub share_is_made : told_ann (asks made (create r ∷ [])) (create_share s r 1 (invited bob ReadOnly ∷ []) ∷ []) ≡ put s 1 ∷ []
unfolding digits
share_is_made = refl

pub share_marks_root : seen shared ann Private ≡ (r, 2) ∷ (s, 1) ∷ []
unfolding digits
share_marks_root = refl

pub root_names_share : mark_at shared r ≡ Some s
unfolding digits
root_names_share = refl

pub share_has_link : link_at shared s ≡ Some link
unfolding digits
share_has_link = refl

pub not_accepted_yet : (view_of shared bob Shared notes).here ≡ false
unfolding digits
not_accepted_yet = refl

abbrev accepted : List Commit
accepted = accepts shared bob s

pub bob_may_read : permission_at accepted s bob ≡ Some ReadOnly
unfolding digits
bob_may_read = refl

pub second_accept_commits_nothing : acceptance accepted bob s ≡ []
unfolding digits
second_accept_commits_nothing = refl

pub owners_accept_commits_nothing : acceptance accepted ann s ≡ []
unfolding digits
owners_accept_commits_nothing = refl

pub first_entries : entries_of accepted bob Shared ≡ r ∷ s ∷ []
unfolding digits
first_entries = refl

pub first_page : page_of accepted bob Shared 0 200 ≡ ((r, 2) ∷ (s, 2) ∷ [], 2, false)
unfolding digits
first_page = refl

pub accepted_is_lawful : are_lawful [] accepted ≡ true
unfolding digits
accepted_is_lawful = refl

-- one name is written, and its root is the one name at or below the root; bob is the one user
pub acceptance_is_bounded : option_map (λ (made_by : Commit). commit_bound shared made_by) (last_of accepted) ≡ Some 6
unfolding digits
acceptance_is_bounded = refl

-- ---- a share with its root and a child in one request

abbrev at_once : List NamedOp
at_once = create_under k r ∷ op_of (share_draft s r None (invited bob ReadWrite ∷ [])) ∷ create r ∷ []

pub all_at_once : told (asked_by ann Private made true at_once) ≡ put k 1 ∷ put s 1 ∷ put r 1 ∷ []
unfolding digits
all_at_once = refl

pub at_once_is_seen : page_of (accepts (asks made at_once) bob s) bob Shared 0 200 ≡ ((k, 1) ∷ (r, 1) ∷ (s, 2) ∷ [], 3, false)
unfolding digits
at_once_is_seen = refl

pub at_once_is_lawful : are_lawful [] (asks made at_once) ≡ true
unfolding digits
at_once_is_lawful = refl

pub accepted_at_once_is_lawful : are_lawful [] (accepts (asks made at_once) bob s) ≡ true
unfolding digits
accepted_at_once_is_lawful = refl

-- ---- an empty zone that is made and removed

pub making_is_noticed : feed_of made ann Private 0 200 ≡ (codes "Notes" ∷ [], 1, false)
unfolding digits
making_is_noticed = refl

pub making_gives_no_entry : page_of made ann Private 0 200 ≡ ([], 0, false)
unfolding digits
making_gives_no_entry = refl

pub removal_is_noticed : feed_of (made ++ act DropZone ∷ []) ann Private 1 200 ≡ (codes "Notes" ∷ [], 2, false)
unfolding digits
removal_is_noticed = refl

pub removal_is_lawful : are_lawful [] (made ++ act DropZone ∷ []) ≡ true
unfolding digits
removal_is_lawful = refl

-- ---- the default zone has no atomic requests

abbrev home : ZoneKey
home = record { owner = ann; zone = default_zone }

abbrev at_home : Caller
at_home = record { user = ann; scope = Private; key = home }

abbrev two_at_home : List Commit
two_at_home = (modified at_home 1000 [] true (create a ∷ create b ∷ [])).commits

pub two_at_home_are_lawful : are_lawful [] two_at_home ≡ true
unfolding digits
two_at_home_are_lawful = refl

pub each_is_a_commit : length two_at_home ≡ 2
unfolding digits
each_is_a_commit = refl

pub one_alone_is_refused : told (modified at_home 1000 two_at_home true (update a 1 ∷ update b 0 ∷ [])) ≡ put a 2 ∷ shown Conflict b 1 ∷ []
unfolding digits
one_alone_is_refused = refl

pub home_is_lawful : are_lawful [] (two_at_home ++ (modified at_home 1000 two_at_home true (update a 1 ∷ update b 0 ∷ [])).commits) ≡ true
unfolding digits
home_is_lawful = refl

pub no_share_at_home : told (modified at_home 1000 two_at_home true (create_share s a 1 [] ∷ [])) ≡ refused BadRequest ∷ []
unfolding digits
no_share_at_home = refl

-- ---- subscriptions

abbrev watch : Fires → Act
watch fires = SetSubscription (record { scope = Private; id = Some k; key = notes; kind = SubKind.Zone; fires = fires; rtype = None; filters = [] })

abbrev on_all : Fires
on_all = record { create = true; update = true; delete = true }

abbrev on_deletes : Fires
on_deletes = record { create = false; update = false; delete = true }

abbrev watching : List Commit
watching = act_at home (watch on_all) ∷ act_at home (watch on_deletes) ∷ []

pub watching_is_lawful : are_lawful [] watching ≡ true
watching_is_lawful = refl

-- the one that was set last
pub last_one_is_kept : map (λ (t : Subscription). t.fires) (subscriptions_of watching ann Private) ≡ on_deletes ∷ []
last_one_is_kept = refl

pub dropped_one_is_gone : subscriptions_of (watching ++ act_at home (DropSubscription Private k) ∷ []) ann Private ≡ []
dropped_one_is_gone = refl

pub drop_is_lawful : are_lawful [] (watching ++ act_at home (DropSubscription Private k) ∷ []) ≡ true
drop_is_lawful = refl

pub drop_is_lawful_once : are_lawful [] (watching ++ act_at home (DropSubscription Private k) ∷ act_at home (DropSubscription Private k) ∷ []) ≡ false
drop_is_lawful_once = refl

-- ---- a subtree unshared, with overlapping shares

abbrev nested : List Commit
nested = asks (asks made (create r ∷ create_under x r ∷ create_under y x ∷ create_under z y ∷ []))
    (create_share sr r 1 (invited bob ReadOnly ∷ invited dan ReadOnly ∷ []) ∷ create_share sx x 1 (invited cat ReadOnly ∷ invited dan ReadOnly ∷ []) ∷ [])

pub nested_is_lawful : are_lawful [] nested ≡ true
unfolding digits
nested_is_lawful = refl

abbrev nested_accepted : List Commit
nested_accepted = accepts (accepts (accepts (accepts nested bob sr) cat sx) dan sr) dan sx

pub nested_accepted_is_lawful : are_lawful [] nested_accepted ≡ true
unfolding digits
nested_accepted_is_lawful = refl

abbrev unshared : List Commit
unshared = asks nested_accepted (force_delete sr ∷ [])

pub share_is_deleted : told_ann nested_accepted (force_delete sr ∷ []) ≡ gone sr ∷ []
unfolding digits
share_is_deleted = refl

pub bob_loses_all : page_of unshared bob Shared 6 200 ≡ ((r, 0) ∷ (sr, 0) ∷ (x, 0) ∷ (y, 0) ∷ (z, 0) ∷ [], 11, false)
unfolding digits
bob_loses_all = refl

pub bob_was_at : page_of nested_accepted bob Shared 6 200 ≡ ([], 6, false)
unfolding digits
bob_was_at = refl

pub cat_loses_nothing : page_of unshared cat Shared 5 200 ≡ ([], 5, false)
unfolding digits
cat_loses_nothing = refl

pub dan_was_at : page_of nested_accepted dan Shared 6 200 ≡ ([], 6, false)
unfolding digits
dan_was_at = refl

pub dan_loses_the_root : page_of unshared dan Shared 6 200 ≡ ((r, 0) ∷ (sr, 0) ∷ [], 8, false)
unfolding digits
dan_loses_the_root = refl

pub bobs_entries : entries_of unshared bob Shared ≡ r ∷ sr ∷ x ∷ y ∷ z ∷ sr ∷ r ∷ sr ∷ x ∷ y ∷ z ∷ []
unfolding digits
bobs_entries = refl

pub cats_entries : entries_of unshared cat Shared ≡ sx ∷ x ∷ y ∷ z ∷ sx ∷ []
unfolding digits
cats_entries = refl

pub dans_entries : entries_of unshared dan Shared ≡ r ∷ sr ∷ x ∷ y ∷ z ∷ sx ∷ r ∷ sr ∷ []
unfolding digits
dans_entries = refl

pub root_is_unmarked : mark_at unshared r ≡ None
unfolding digits
root_is_unmarked = refl

pub unshared_is_lawful : are_lawful [] unshared ≡ true
unfolding digits
unshared_is_lawful = refl

-- ---- of several shares the highest permission counts

abbrev two_permissions : List Commit
two_permissions = accepts (accepts (asks (asks made (create r ∷ create_under x r ∷ create_under y x ∷ []))
    (create_share sr r 1 (invited dan ReadOnly ∷ []) ∷ create_share sx x 1 (invited dan ReadWrite ∷ []) ∷ [])) dan sr) dan sx

pub two_accepted_are_lawful : are_lawful [] two_permissions ≡ true
unfolding digits
two_accepted_are_lawful = refl

pub lower_may_be_written : told (asked_by dan Shared two_permissions true (update y 1 ∷ [])) ≡ put y 2 ∷ []
unfolding digits
lower_may_be_written = refl

pub upper_may_not : told (asked_by dan Shared two_permissions true (update r 2 ∷ [])) ≡ refused AccessDenied ∷ []
unfolding digits
upper_may_not = refl

pub two_permissions_are_lawful : are_lawful [] (asks_shared two_permissions dan (update y 1 ∷ [])) ≡ true
unfolding digits
two_permissions_are_lawful = refl

-- ---- paging over later edits

abbrev grown : List Commit
grown = accepts (asks (asks made (create z ∷ create_under a z ∷ create_under b z ∷ create_under c z ∷ [])) (create_share y z 1 (invited bob ReadOnly ∷ []) ∷ [])) bob y

pub grown_is_lawful : are_lawful [] grown ≡ true
unfolding digits
grown_is_lawful = refl

pub entries_before : entries_of grown bob Shared ≡ a ∷ b ∷ c ∷ y ∷ z ∷ []
unfolding digits
entries_before = refl

pub page_1 : page_of grown bob Shared 0 2 ≡ ((a, 1) ∷ (b, 1) ∷ [], 2, true)
unfolding digits
page_1 = refl

abbrev edited : List Commit
edited = asks (asks (asks grown (update a 1 ∷ [])) (update z 2 ∷ [])) (delete c 1 ∷ [])

pub edits_are_told : told_ann grown (update a 1 ∷ []) ++ (told_ann (asks grown (update a 1 ∷ [])) (update z 2 ∷ []) ++ told_ann (asks (asks grown (update a 1 ∷ [])) (update z 2 ∷ [])) (delete c 1 ∷ []))
    ≡ put a 2 ∷ put z 3 ∷ gone c ∷ []
unfolding digits
edits_are_told = refl

pub entries_after : entries_of edited bob Shared ≡ a ∷ b ∷ c ∷ y ∷ z ∷ a ∷ z ∷ c ∷ []
unfolding digits
entries_after = refl

pub page_2 : page_of edited bob Shared 2 2 ≡ ((y, 2) ∷ (a, 2) ∷ [], 6, true)
unfolding digits
page_2 = refl

pub page_3 : page_of edited bob Shared 6 2 ≡ ((z, 3) ∷ (c, 0) ∷ [], 8, false)
unfolding digits
page_3 = refl

pub edited_is_lawful : are_lawful [] edited ≡ true
unfolding digits
edited_is_lawful = refl

-- the three pages folded, from an empty copy on
abbrev folded_tags : List (Option ℕ)
folded_tags =
    let at_first = views_of grown bob Shared notes in
    let at_last = views_of edited bob Shared notes in
    let copy = fold_page (fold_page (fold_page (λ _. None) (page at_first 0 2).items) (page at_last 2 2).items) (page at_last 6 2).items in
    map (λ name. option_map (λ (row : Record). row.tag) (copy name)) (a ∷ b ∷ c ∷ y ∷ z ∷ [])

pub fold_has : folded_tags ≡ Some 2 ∷ Some 1 ∷ None ∷ Some 2 ∷ Some 3 ∷ []
unfolding digits
fold_has = refl

-- ---- revocation

abbrev pub revoked : List Commit
revoked = asks accepted (set_participants s [] ∷ [])

pub revoking_is_told : told_ann accepted (set_participants s [] ∷ []) ≡ put s 3 ∷ []
unfolding digits
revoking_is_told = refl

pub revoked_entries : entries_of revoked bob Shared ≡ r ∷ s ∷ r ∷ s ∷ []
unfolding digits
revoked_entries = refl

pub all_is_taken_back : page_of revoked bob Shared 2 200 ≡ ((r, 0) ∷ (s, 0) ∷ [], 4, false)
unfolding digits
all_is_taken_back = refl

pub zone_is_listed_once : feed_of revoked bob Shared 0 200 ≡ (codes "Notes" ∷ [], 2, false)
unfolding digits
zone_is_listed_once = refl

pub zone_is_gone : (view_of revoked bob Shared notes).here ≡ false
unfolding digits
zone_is_gone = refl

-- but it was seen, and cat has never seen it
pub zone_was_seen : was_seen revoked bob Shared notes ≡ true
unfolding digits
zone_was_seen = refl

pub others_never_saw_it : was_seen revoked cat Shared notes ≡ false
unfolding digits
others_never_saw_it = refl

pub revoked_is_lawful : are_lawful [] revoked ≡ true
unfolding digits
revoked_is_lawful = refl

-- ---- unseen edits change nothing

abbrev unseen_edit : List Commit
unseen_edit = asks accepted (create h ∷ [])

pub unseen_edit_is_lawful : are_lawful [] unseen_edit ≡ true
unfolding digits
unseen_edit_is_lawful = refl

pub unseen_edit_is_told : told_ann accepted (create h ∷ []) ≡ put h 1 ∷ []
unfolding digits
unseen_edit_is_told = refl

pub unseen_entries : entries_of unseen_edit bob Shared ≡ r ∷ s ∷ []
unfolding digits
unseen_entries = refl

pub nothing_new : page_of accepted bob Shared 2 200 ≡ ([], 2, false)
unfolding digits
nothing_new = refl

pub nothing_new_after : page_of unseen_edit bob Shared 2 200 ≡ ([], 2, false)
unfolding digits
nothing_new_after = refl

pub zone_is_not_noticed : feed_of unseen_edit bob Shared 1 200 ≡ ([], 1, false)
unfolding digits
zone_is_not_noticed = refl

-- ---- hidden names

abbrev hidden : List Commit
hidden = asks unseen_edit (set_participants s (invited bob ReadWrite ∷ []) ∷ [])

pub raising_is_told : told_ann unseen_edit (set_participants s (invited bob ReadWrite ∷ []) ∷ []) ≡ put s 3 ∷ []
unfolding digits
raising_is_told = refl

pub bob_may_write : permission_at hidden s bob ≡ Some ReadWrite
unfolding digits
bob_may_write = refl

pub raised_entries : entries_of hidden bob Shared ≡ r ∷ s ∷ s ∷ []
unfolding digits
raised_entries = refl

pub hidden_is_not_found : told (asked_by bob Shared hidden true (update h 1 ∷ [])) ≡ refused NotFound ∷ []
unfolding digits
hidden_is_not_found = refl

pub hidden_is_as_if_gone : told (asked_by bob Shared hidden true (force_delete h ∷ [])) ≡ gone h ∷ []
unfolding digits
hidden_is_as_if_gone = refl

pub hidden_stays : (asked_by bob Shared hidden true (force_delete h ∷ [])).commits ≡ []
unfolding digits
hidden_stays = refl

pub hidden_is_taken : told (asked_by bob Shared hidden true (create_under h r ∷ [])) ≡ refused Exists ∷ []
unfolding digits
hidden_is_taken = refl

pub others_may_be_made : told (asked_by bob Shared hidden true (create_under k r ∷ [])) ≡ put k 1 ∷ []
unfolding digits
others_may_be_made = refl

pub made_by_bob_is_lawful : are_lawful [] (asks_shared hidden bob (create_under k r ∷ [])) ≡ true
unfolding digits
made_by_bob_is_lawful = refl

pub hidden_is_lawful : are_lawful [] hidden ≡ true
unfolding digits
hidden_is_lawful = refl

-- ---- leaving a share

abbrev left : List Commit
left = asks_shared accepted bob (delete s 2 ∷ [])

abbrev users_at : List Commit → List ℕ → Option (List (List ℕ))
users_at log name = option_map (λ (t : ShareOf). map (λ (who : Participant). who.user) t.participants) (option_and_then share_of (record_at (zone_at log notes).rows name))

pub leaving_is_a_deletion : told (asked_by bob Shared accepted true (delete s 2 ∷ [])) ≡ gone s ∷ []
unfolding digits
leaving_is_a_deletion = refl

pub share_stays : seen left ann Private ≡ (r, 2) ∷ (s, 3) ∷ []
unfolding digits
share_stays = refl

pub nobody_is_in : users_at left s ≡ Some []
unfolding digits
nobody_is_in = refl

pub bob_is_out : (view_of left bob Shared notes).here ≡ false
unfolding digits
bob_is_out = refl

pub left_is_lawful : are_lawful [] left ≡ true
unfolding digits
left_is_lawful = refl

-- ---- a public permission on and off

abbrev opened : List Commit
opened = accepts (asks accepted (set_public s ReadOnly ∷ [])) cat s

pub opened_is_lawful : are_lawful [] opened ≡ true
unfolding digits
opened_is_lawful = refl

pub opening_is_told : told_ann accepted (set_public s ReadOnly ∷ []) ≡ put s 3 ∷ []
unfolding digits
opening_is_told = refl

pub cat_may_read : permission_at opened s cat ≡ Some ReadOnly
unfolding digits
cat_may_read = refl

pub cats_first_entries : entries_of opened cat Shared ≡ r ∷ s ∷ []
unfolding digits
cats_first_entries = refl

pub cat_comes_in : page_of opened cat Shared 0 200 ≡ ((r, 2) ∷ (s, 4) ∷ [], 2, false)
unfolding digits
cat_comes_in = refl

abbrev closed : List Commit
closed = asks opened (set_public s Nothing ∷ [])

pub closed_is_lawful : are_lawful [] closed ≡ true
unfolding digits
closed_is_lawful = refl

pub closing_is_told : told_ann opened (set_public s Nothing ∷ []) ≡ put s 5 ∷ []
unfolding digits
closing_is_told = refl

pub cat_is_out : page_of closed cat Shared 2 200 ≡ ((r, 0) ∷ (s, 0) ∷ [], 4, false)
unfolding digits
cat_is_out = refl

pub owner_sees : seen closed ann Private ≡ (r, 2) ∷ (s, 5) ∷ []
unfolding digits
owner_sees = refl

abbrev opened_again : List Commit
opened_again = asks closed (set_public s ReadOnly ∷ [])

pub opening_again_is_told : told_ann closed (set_public s ReadOnly ∷ []) ≡ put s 6 ∷ []
unfolding digits
opening_again_is_told = refl

pub cats_entries_at_last : entries_of opened_again cat Shared ≡ r ∷ s ∷ r ∷ s ∷ r ∷ s ∷ []
unfolding digits
cats_entries_at_last = refl

pub cat_is_in_again : page_of opened_again cat Shared 4 200 ≡ ((r, 2) ∷ (s, 6) ∷ [], 6, false)
unfolding digits
cat_is_in_again = refl

pub opened_again_is_lawful : are_lawful [] opened_again ≡ true
unfolding digits
opened_again_is_lawful = refl

-- ---- a new share whose root goes in the same request

abbrev share_of_nothing : List Commit
share_of_nothing = asks (asks made (create r ∷ [])) (create_share s r 1 [] ∷ delete r 1 ∷ [])

pub both_are_gone : seen share_of_nothing ann Private ≡ []
unfolding digits
both_are_gone = refl

pub root_was_put : seen (asks share_of_nothing (create r ∷ create s ∷ [])) ann Private ≡ (r, 3) ∷ (s, 2) ∷ []
unfolding digits
root_was_put = refl

pub root_put_is_lawful : are_lawful [] (asks share_of_nothing (create r ∷ create s ∷ [])) ≡ true
unfolding digits
root_put_is_lawful = refl

pub share_of_nothing_is_lawful : are_lawful [] share_of_nothing ≡ true
unfolding digits
share_of_nothing_is_lawful = refl

-- ---- a shared root that goes

abbrev root_deleted : List Commit
root_deleted = asks shared (delete r 2 ∷ [])

pub root_goes_with_its_share : seen root_deleted ann Private ≡ []
unfolding digits
root_goes_with_its_share = refl

-- neither was put by its removal
pub neither_was_put : seen (asks root_deleted (create r ∷ create s ∷ [])) ann Private ≡ (r, 3) ∷ (s, 2) ∷ []
unfolding digits
neither_was_put = refl

pub neither_put_is_lawful : are_lawful [] (asks root_deleted (create r ∷ create s ∷ [])) ≡ true
unfolding digits
neither_put_is_lawful = refl

pub root_deleted_is_lawful : are_lawful [] root_deleted ≡ true
unfolding digits
root_deleted_is_lawful = refl

-- ---- a share without its root, and a child of it

abbrev rootless : List NamedOp
rootless = op_of (record (draft s) { rtype = Some (codes "cloudkit.share") }) ∷ create_under k s ∷ []

pub a_rootless_share_is_no_parent : told (asked_by ann Private made true rootless) ≡ refused BadRequest ∷ refused Validating ∷ []
unfolding digits
a_rootless_share_is_no_parent = refl
