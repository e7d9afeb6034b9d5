-- The laws of the rules.
use Rattle.std.specs.Prelude.{◌≡◌, ⊤, Some, None, ◌<◌, ◌≤◌, ◌+◌, ◌^◌, ℕ, suc, length, map, is_some, Bool, true, false, List, [], ◌∷◌, ◌++◌, drop, fold, zip, Option, option_and_then, ◌⊎◌, if◌then◌else◌}
use Rattle.std.specs.List.{list_any, AllByRecursion}
use Rattle.ck_base.specs.Names.{IsName}
use Rattle.ck_base.specs.Guids.{IsGuid}
use Rattle.record_model.specs.DraftForms.{IsMeantDraft}
use Rattle.record_model.specs.RecordForms.{IsStored}
use Rattle.ck_base.specs.declared.key.ZoneKey.{ZoneKey}
use Rattle.ck_base.specs.declared.scope.Scope.{Scope}
use Rattle.ck_base.specs.declared.scope.Scope.TheVariants.{Private, Shared}
use Rattle.share_records.specs.declared.share.Share.{Share as ShareOf}
use Rattle.record_model.specs.declared.records.Record.{Record}
use Rattle.record_model.specs.declared.view.View.{View}
use Rattle.zone_model.specs.declared.commits.Write.{Write}
use Rattle.zone_model.specs.declared.commits.Act.{Act}
use Rattle.zone_model.specs.declared.commits.Act.TheVariants.{Writes, MakeZone, DropZone, SetSubscription, DropSubscription}
use Rattle.zone_model.specs.declared.commits.Commit.{Commit}
use Rattle.zone_model.specs.declared.operations.Past.{Past}
use Rattle.zone_model.specs.declared.outcomes.OpFault.{OpFault}
use Rattle.zone_model.specs.declared.outcomes.OpFault.TheVariants.{Conflict}
use Rattle.zone_model.specs.declared.outcomes.Outcome.TheVariants.{Put, Refused}
use Rattle.zone_model.specs.Names.{same, same_key, is_default, is_shared, is_in, has_twice}
use Rattle.zone_model.specs.Records.{record_at, is_there, share_of, is_share, IsAscending}
use Rattle.name_rules.specs.Options.{is_some_and}
use Rattle.zone_model.specs.Coverage.{may_write}
use Rattle.share_records.specs.Permissions.{has_accepted}
use Rattle.zone_model.specs.Same.{same_record, same_view}
use Rattle.zone_model.specs.Zones.{zone_at, after_act, commits_at, act_puts, puts_at}
use Rattle.zone_model.specs.Subscriptions.{subscriptions_at, subscriptions_after}
use Rattle.zone_model.specs.Ancestry.{IsAncestor, is_ancestor}
use Rattle.zone_model.specs.Views.{nowhere, view_of, views_at_fronts, without_repeats, views_of, last_view}
use Rattle.zone_model.specs.Entries.{changed, entries}
use Rattle.zone_model.specs.Pages.{page}
use Rattle.zone_laws.specs.Copies.{Copy, IsInStep, fold_page}
use Rattle.zone_model.specs.ZoneEntries.{is_noticed, zone_entries, zone_page}
use Rattle.zone_model.specs.ZoneFeed.{feed_page}
use Rattle.zone_model.specs.Cascade.{IsLeast, removed_names}
use Rattle.zone_model.specs.Requests.{Caller, NamedOp, is_deletion, is_forced, begins_share, new_parent, root_given, root_tag_given, puts_in, roots_in}
use Rattle.zone_model.specs.Grounds.{Grounds, grounds_of, is_seen, is_stale, is_writable}
use Rattle.zone_model.specs.Judging.{judgement}
use Rattle.zone_model.specs.Effect.{Request, writes}
use Rattle.plain_creates.specs.PlainCreates.{IsOwner, is_plain_named, refusal_of_create, created_record}
use Rattle.plain_creates.specs.OnePuts.{commit_of_put, IsOnePut, last_put, count_puts}
use Rattle.zone_model.specs.Form.{IsKey, are_in_order, IsInForm}
use Rattle.zone_model.specs.Modifying.{outcome_of, request_at, judgement_at, effect_at, modified_as_one, modified, commits_of_request}
use Rattle.zone_model.specs.Lawful.{MayFollowInTurn}
use Rattle.zone_model.specs.declared.events.Event.{Event}
use Rattle.zone_model.specs.Events.{log_of}
use Rattle.zone_model.specs.Legal.{IsLegalEvent, IsLegal}
use Rattle.zone_laws.specs.Writable.{IsNearestSeen, IsWritable}

-- ---- records

-- records that compare alike are the same, and each compares alike with itself; so do views
pub record AlikeIsSame : Type 0 where
  pub same : (a b : Record) → same_record a b ≡ true → a ≡ b
  pub itself : (a : Record) → same_record a a ≡ true
  pub same_views : (v w : View) → same_view v w ≡ true → v ≡ w
  pub view_itself : (v : View) → same_view v v ≡ true

-- the test finds all that is at or above a name and nothing else, in rings too
pub record AncestorsAreFound : Type 0 where
  pub found : (rows : List Record) (a x : List ℕ) → IsAncestor rows a x → is_ancestor rows a x ≡ true
  pub others : (rows : List Record) (a x : List ℕ) → is_ancestor rows a x ≡ true → IsAncestor rows a x

-- the removed names are the least closed set, and whatever else is least has the same names
pub record RemovalIsLeast : Type 0 where
  pub least : (rows : List Record) (taken : List (List ℕ)) → IsLeast rows taken (removed_names rows taken)
  pub only : (rows : List Record) (taken names : List (List ℕ)) → IsLeast rows taken names → (x : List ℕ)
      → (is_in names x ≡ true → is_in (removed_names rows taken) x ≡ true)
      × (is_in (removed_names rows taken) x ≡ true → is_in names x ≡ true)

-- ---- longer logs

-- a zone after further commits is what the acts of its own among them leave, and the counts of puts add up
pub record ZonesGrow : Type 0 where
  pub zone : (log more : List Commit) (key : ZoneKey)
      → zone_at (log ++ more) key ≡ fold (λ z (c : Commit). after_act z c.act) (zone_at log key) (commits_at more key)
  pub one : (log : List Commit) (c : Commit) (key : ZoneKey)
      → zone_at (log ++ c ∷ []) key ≡ (if same_key key c.key then after_act (zone_at log key) c.act else zone_at log key)
  pub puts : (log more : List Commit) (key : ZoneKey) (x : List ℕ)
      → puts_at (log ++ more) key x ≡ puts_at log key x + puts_at more key x
  pub subscriptions : (log : List Commit) (c : Commit) (key : ZoneKey)
      → subscriptions_at (log ++ c ∷ []) key
      ≡ (if same_key key c.key then subscriptions_after (subscriptions_at log key) c.act else subscriptions_at log key)

-- a commit of another key changes nothing
pub record ChangesNothing : Type 0 where
  pub zone : (log : List Commit) (c : Commit) (key : ZoneKey) → same_key key c.key ≡ false
      → zone_at (log ++ c ∷ []) key ≡ zone_at log key
  pub puts : (log : List Commit) (c : Commit) (key : ZoneKey) (x : List ℕ) → same_key key c.key ≡ false
      → puts_at (log ++ c ∷ []) key x ≡ puts_at log key x
  pub subscriptions : (log : List Commit) (c : Commit) (key : ZoneKey) → same_key key c.key ≡ false
      → subscriptions_at (log ++ c ∷ []) key ≡ subscriptions_at log key
  pub view : (log : List Commit) (c : Commit) (u : List ℕ) (scope : Scope) (key : ZoneKey) → same_key key c.key ≡ false
      → view_of (log ++ c ∷ []) u scope key ≡ view_of log u scope key

-- the records of a zone ascend by name, and so do those of each view
pub record StaysInOrder : Type 0 where
  pub zone : (log : List Commit) (key : ZoneKey) → IsAscending (zone_at log key).rows
  pub view : (log : List Commit) (u : List ℕ) (scope : Scope) (key : ZoneKey)
      → IsAscending (view_of log u scope key).rows

-- One legal event more leaves the history of a lock legal. The commits of its log follow each other, and have their form.
pub record HistoriesStayLegal : Type 0 where
  pub grows : (lock : ℕ) (es : List Event) (e : Event) → IsLegal lock es → IsLegalEvent lock es e → IsLegal lock (es ++ e ∷ [])
  pub lawful : (lock : ℕ) (es : List Event) → IsLegal lock es → MayFollowInTurn [] (log_of es)
  pub formed : (lock : ℕ) (es : List Event) → IsLegal lock es → AllByRecursion IsInForm (log_of es)

-- ---- views and entries

-- Of the views at the fronts of a log those that are equal to the one before them are dropped. What is left ends as
-- they do, has their entries and pages, and the zone was here in the same cases.
pub record RepeatsAreDropped : Type 0 where
  pub apart : (vs us ws : List View) (v w : View) → without_repeats vs ≡ us ++ v ∷ w ∷ ws → same_view v w ≡ false
  pub same_entries : (vs : List View) → entries (without_repeats vs) ≡ entries vs
  pub same_last : (vs : List View) → last_view (without_repeats vs) ≡ last_view vs
  pub same_page : (vs : List View) (n k : ℕ) → page (without_repeats vs) n k ≡ page vs n k
  pub same_here : (vs : List View)
      → list_any (λ (v : View). v.here) (without_repeats vs) ≡ list_any (λ (v : View). v.here) vs

-- One commit more adds one view, unless the view stays as it was, and the entries of what it changes: none where the
-- view stays as it was.
pub record ViewsGrow : Type 0 where
  pub at_fronts : (log : List Commit) (c : Commit) (u : List ℕ) (scope : Scope) (key : ZoneKey)
      → views_at_fronts (log ++ c ∷ []) u scope key
      ≡ views_at_fronts log u scope key ++ view_of (log ++ c ∷ []) u scope key ∷ []
  pub views : (log : List Commit) (c : Commit) (u : List ℕ) (scope : Scope) (key : ZoneKey)
      → views_of (log ++ c ∷ []) u scope key
      ≡ views_of log u scope key
      ++ (if same_view (view_of log u scope key) (view_of (log ++ c ∷ []) u scope key) then [] else view_of (log ++ c ∷ []) u scope key ∷ [])
  pub last : (log : List Commit) (u : List ℕ) (scope : Scope) (key : ZoneKey)
      → last_view (views_of log u scope key) ≡ view_of log u scope key
  pub entries_more : (log : List Commit) (c : Commit) (u : List ℕ) (scope : Scope) (key : ZoneKey)
      → entries (views_of (log ++ c ∷ []) u scope key)
      ≡ entries (views_of log u scope key) ++ changed (view_of log u scope key) (view_of (log ++ c ∷ []) u scope key)
  pub unseen : (log : List Commit) (c : Commit) (u : List ℕ) (scope : Scope) (key : ZoneKey)
      → view_of log u scope key ≡ view_of (log ++ c ∷ []) u scope key
      → entries (views_of (log ++ c ∷ []) u scope key) ≡ entries (views_of log u scope key)

-- One commit more adds at most its own zone to those that changed for a user, and none where the user's view stays as
-- it was.
pub record ZoneEntriesGrow : Type 0 where
  pub more : (log : List Commit) (c : Commit) (u : List ℕ) (scope : Scope)
      → zone_entries (log ++ c ∷ []) u scope
      ≡ zone_entries log u scope ++ (if is_noticed u scope log c then c.key ∷ [] else [])
  pub unseen : (log : List Commit) (c : Commit) (u : List ℕ) (scope : Scope)
      → view_of log u scope c.key ≡ view_of (log ++ c ∷ []) u scope c.key
      → zone_entries (log ++ c ∷ []) u scope ≡ zone_entries log u scope

-- A page of the feed over all locks lists no more zones than its limit; where no more follows, the number of each lock
-- is that of all its entries. At each lock a zone with an entry above the number is listed, or has one above the page's
-- number, which goes up where more follows.
pub record FeedsLoseNothing : Type 0 where
  pub limit : (u : List ℕ) (scope : Scope) (logs : List (List Commit)) (ns : List ℕ) (k : ℕ)
      → length (feed_page u scope logs ns k).zones ≤ k
  pub whole : (u : List ℕ) (scope : Scope) (logs : List (List Commit)) (ns : List ℕ) (k : ℕ) → length ns ≡ length logs
      → (feed_page u scope logs ns k).more ≡ false
      → (feed_page u scope logs ns k).numbers ≡ map (λ log. length (zone_entries log u scope)) logs
  pub kept : (log : List Commit) (u : List ℕ) (scope : Scope) (n k : ℕ) (key : ZoneKey)
      → list_any (same_key key) (drop n (zone_entries log u scope)) ≡ true
      → (list_any (same_key key) (zone_page log u scope n k).names ≡ true)
      ⊎ (list_any (same_key key) (drop (zone_page log u scope n k).number (zone_entries log u scope)) ≡ true)
  pub onward : (log : List Commit) (u : List ℕ) (scope : Scope) (n k : ℕ) → 0 < k
      → (zone_page log u scope n k).more ≡ true → n < (zone_page log u scope n k).number

-- equal neighbours give no entry
abbrev pub EqualViewsGiveNone : Type 0
EqualViewsGiveNone = (us : List View) (v : View) (vs : List View) → entries (us ++ v ∷ v ∷ vs) ≡ entries (us ++ v ∷ vs)

-- ---- copies

-- A copy that is in step, with the page above its number, is in step with the page's number, and is the last view where
-- no more follows. The copy may have been in step before further commits. A page keeps its limit, and where more
-- follows its number goes up.
pub record PagesKeepInStep : Type 0 where
  pub step : (vs : List View) (copy : Copy) (n k : ℕ) → IsInStep copy n vs
      → IsInStep (fold_page copy (page vs n k).items) (page vs n k).number vs
  pub whole : (vs : List View) (copy : Copy) (n k : ℕ) → IsInStep copy n vs → (page vs n k).more ≡ false
      → (x : List ℕ) → fold_page copy (page vs n k).items x ≡ record_at (last_view vs).rows x
  pub limit : (vs : List View) (n k : ℕ) → length (page vs n k).items ≤ k
  pub onward : (vs : List View) (n k : ℕ) → 0 < k → (page vs n k).more ≡ true → n < (page vs n k).number
  pub later : (log more : List Commit) (u : List ℕ) (scope : Scope) (key : ZoneKey) (copy : Copy) (n k : ℕ)
      → IsInStep copy n (views_of log u scope key)
      → (let vs = views_of (log ++ more) u scope key in
      IsInStep (fold_page copy (page vs n k).items) (page vs n k).number vs)

-- a copy stays in step with its number under any further commits
abbrev pub CopiesStayInStep : Type 0
CopiesStayInStep = (more log : List Commit) (u : List ℕ) (scope : Scope) (key : ZoneKey) (copy : Copy) (n : ℕ)
    → IsInStep copy n (views_of log u scope key) → IsInStep copy n (views_of (log ++ more) u scope key)

-- the copy of nothing is in step with 0
abbrev pub NothingIsInStep : Type 0
NothingIsInStep = (log : List Commit) (u : List ℕ) (scope : Scope) (key : ZoneKey)
    → IsInStep (λ x. None) 0 (views_of log u scope key)

-- ---- permissions

-- a custom zone of another user
abbrev pub IsParticipantsZone : ZoneKey → List ℕ → Type 0
IsParticipantsZone key u = (same u key.owner ≡ false) × (is_default key ≡ false)

-- A participant sees each share that they accepted with a permission other than none, and with it all from its root
-- down. So it is enough to look at the view for what they may write.
pub record PermissionsAreSeen : Type 0 where
  pub share : (log : List Commit) (key : ZoneKey) (u x : List ℕ) (r : Record) → IsParticipantsZone key u
      → record_at (zone_at log key).rows x ≡ Some r → is_some_and (has_accepted u) (share_of r) ≡ true
      → record_at (view_of log u Shared key).rows x ≡ Some r
  pub chain : (log : List Commit) (key : ZoneKey) (u x y : List ℕ) (r t : Record) (s : ShareOf)
      → IsParticipantsZone key u
      → record_at (zone_at log key).rows x ≡ Some r → share_of r ≡ Some s → has_accepted u s ≡ true
      → IsAncestor (zone_at log key).rows s.root y → record_at (zone_at log key).rows y ≡ Some t
      → record_at (view_of log u Shared key).rows y ≡ Some t
  pub writing : (log : List Commit) (key : ZoneKey) (u x : List ℕ) → IsParticipantsZone key u
      → may_write (view_of log u Shared key).rows u x ≡ may_write (zone_at log key).rows u x
  pub judging : (log : List Commit) (caller : Caller) (pasts : List Past) (ops : List NamedOp) (x y : List ℕ)
      → caller.scope ≡ Shared → IsParticipantsZone caller.key caller.user
      → (let g = grounds_of caller pasts (view_of log caller.user caller.scope caller.key).rows ops in
      IsNearestSeen g y x → is_writable g x ≡ may_write (zone_at log caller.key).rows caller.user y)

-- the record t is a share that covers x for the user
pub record IsCoveredBy (rows : List Record) (u x : List ℕ) (t : Record) : Type 0 where
  pub share : ShareOf
  pub there : record_at rows t.name ≡ Some t
  pub is : share_of t ≡ Some share
  pub accepted : has_accepted u share ≡ true
  pub above : IsAncestor rows share.root x

-- A participant sees nothing else than what a share that they accepted covers, and such shares. In the private scope
-- nothing of others is seen, and in the shared scope nothing of one's own and no default zone.
pub record NothingElseIsSeen : Type 0 where
  pub records : (log : List Commit) (key : ZoneKey) (u x : List ℕ) (r : Record)
      → record_at (view_of log u Shared key).rows x ≡ Some r
      → (record_at (zone_at log key).rows x ≡ Some r)
      × ((is_some_and (has_accepted u) (share_of r) ≡ true) ⊎ ((t : Record) × IsCoveredBy (zone_at log key).rows u x t))
  pub strangers : (log : List Commit) (key : ZoneKey) (u : List ℕ) → same u key.owner ≡ false
      → view_of log u Private key ≡ nowhere
  pub own : (log : List Commit) (key : ZoneKey) (u : List ℕ) → same u key.owner ≡ true
      → view_of log u Shared key ≡ nowhere
  pub defaults : (log : List Commit) (key : ZoneKey) (u : List ℕ) → is_default key ≡ true
      → view_of log u Shared key ≡ nowhere

-- What may be put in the shared scope: a record of the view that is writable and no share; or a new one that begins no
-- share, under a parent that is writable.
pub record IsPermittedPut (g : Grounds) (op : NamedOp) : Type 0 where
  pub old : is_seen g op.name ≡ true
      → IsWritable g op.name × (is_some_and is_share (record_at g.seen op.name) ≡ false)
  pub new : is_seen g op.name ≡ false
      → (begins_share g.seen op ≡ false)
      × ((q : List ℕ) × (new_parent op.draft ≡ Some q) × IsWritable g q)

-- what may be deleted there: a share, which is left, or what is writable and has no share
abbrev pub IsPermittedDeletion : Grounds → NamedOp → Type 0
IsPermittedDeletion g op = (r : Record) → record_at g.seen op.name ≡ Some r
    → (is_share r ≡ true) ⊎ (IsWritable g r.name × (is_some r.share ≡ false))

pub record IsPermittedOp (g : Grounds) (op : NamedOp) : Type 0 where
  pub put : is_deletion op.kind ≡ false → IsPermittedPut g op
  pub deletion : is_deletion op.kind ≡ true → IsPermittedDeletion g op

abbrev pub IsPermitted : Grounds → NamedOp × Option OpFault → Type 0
IsPermitted g judged = judged.1 ≡ None → IsPermittedOp g judged.0

-- in the shared scope nothing passes that is not permitted
abbrev pub SharedChangesArePermitted : Type 0
SharedChangesArePermitted = (caller : Caller) (view : View) (pasts : List Past) (ops : List NamedOp)
    → is_shared caller.scope ≡ true
    → AllByRecursion (IsPermitted (grounds_of caller pasts view.rows ops)) (zip ops (judgement view pasts ops caller))

-- ---- commits that put one record

-- after such a commit the zone is there as before, has the record under its name, and all else as before
pub record OnePutMore : Type 0 where
  pub there : (log : List Commit) (key : ZoneKey) (user : List ℕ) (moment : ℕ) (r : Record)
      → (zone_at (log ++ commit_of_put key user moment r ∷ []) key).there ≡ (zone_at log key).there
  pub found : (log : List Commit) (key : ZoneKey) (user : List ℕ) (moment : ℕ) (r : Record) (x : List ℕ)
      → record_at (zone_at (log ++ commit_of_put key user moment r ∷ []) key).rows x
      ≡ (if same x r.name then Some r else record_at (zone_at log key).rows x)
  pub counted : (log : List Commit) (key : ZoneKey) (user : List ℕ) (moment : ℕ) (r : Record) (x : List ℕ)
      → puts_at (log ++ commit_of_put key user moment r ∷ []) key x
      ≡ (if same x r.name then suc (puts_at log key x) else puts_at log key x)

-- Where all commits are such, just the default zones are there, a zone has what was put last under each name, and the
-- counts of puts are the counts of those commits.
pub record PutsAreFound : Type 0 where
  pub zone : (log : List Commit) (key : ZoneKey) → AllByRecursion IsOnePut log
      → (zone_at log key).there ≡ is_default key
  pub found : (log : List Commit) (key : ZoneKey) (x : List ℕ) → AllByRecursion IsOnePut log
      → record_at (zone_at log key).rows x ≡ last_put key x log
  pub there : (log : List Commit) (key : ZoneKey) (x : List ℕ) → AllByRecursion IsOnePut log
      → is_there (zone_at log key).rows x ≡ is_some (last_put key x log)
  pub counted : (log : List Commit) (key : ZoneKey) (x : List ℕ) → AllByRecursion IsOnePut log
      → puts_at log key x ≡ count_puts key x log
  pub never : (log : List Commit) (key : ZoneKey) (x : List ℕ) → last_put key x log ≡ None → count_puts key x log ≡ 0

-- ---- requests

-- the owner sees all of a zone that is there
abbrev pub OwnersSeeAll : Type 0
OwnersSeeAll = (caller : Caller) (log : List Commit) → IsOwner caller → (zone_at log caller.key).there ≡ true
    → view_of log caller.user caller.scope caller.key ≡ record { here = true; rows = (zone_at log caller.key).rows }

-- A request of one operation comes to the same whether it is judged as one or not.
abbrev pub OneIsEitherWay : Type 0
OneIsEitherWay = (caller : Caller) (moment : ℕ) (log : List Commit) (atomic : Bool) (op : NamedOp)
    → modified caller moment log atomic (op ∷ []) ≡ modified_as_one caller moment log (op ∷ [])

-- The creation of a record that stands alone, in a zone of one's own that is there: it is refused where its name is
-- taken, or where it has no type or is too large, and else puts the record in one commit.
pub record PlainCreatesAreDone : Type 0 where
  pub judged : (caller : Caller) (moment : ℕ) (log : List Commit) (op : NamedOp)
      → IsOwner caller → (zone_at log caller.key).there ≡ true → is_plain_named op ≡ true
      → judgement_at caller moment log (op ∷ []) ≡ refusal_of_create (zone_at log caller.key).rows op.name op.draft ∷ []
  pub refused : (caller : Caller) (moment : ℕ) (log : List Commit) (op : NamedOp) (fault : OpFault)
      → IsOwner caller → (zone_at log caller.key).there ≡ true → is_plain_named op ≡ true
      → refusal_of_create (zone_at log caller.key).rows op.name op.draft ≡ Some fault
      → modified_as_one caller moment log (op ∷ []) ≡ record { outcomes = Refused fault None ∷ []; commits = [] }
  pub made : (caller : Caller) (moment : ℕ) (log : List Commit) (op : NamedOp)
      → IsOwner caller → (zone_at log caller.key).there ≡ true → is_plain_named op ≡ true
      → refusal_of_create (zone_at log caller.key).rows op.name op.draft ≡ None
      → (let r = created_record caller.user moment (puts_at log caller.key) op.name op.draft in
      modified_as_one caller moment log (op ∷ [])
      ≡ record { outcomes = Put r ∷ []; commits = commit_of_put caller.key caller.user moment r ∷ [] })

-- The record of such a creation has the form in which a zone keeps it, and its commit has its form.
pub record PlainCreatesAreInForm : Type 0 where
  pub kept : (user : List ℕ) (moment : ℕ) (rows : List Record) (puts : List ℕ → ℕ) (op : NamedOp)
      → is_plain_named op ≡ true → refusal_of_create rows op.name op.draft ≡ None → IsName op.name
      → IsMeantDraft op.draft
      → IsName user → moment < 2 ^ 64 → suc (puts op.name) < 2 ^ 64
      → IsStored (created_record user moment puts op.name op.draft)
  pub formed : (key : ZoneKey) (user : List ℕ) (moment : ℕ) (r : Record) → IsKey key → IsName user → moment < 2 ^ 64
      → IsStored r → IsInForm (commit_of_put key user moment r)

-- What is shown of a conflict is the record of the name, whose tag is another one than was given; or, where a share is
-- begun under a name that none has, the root that was given, whose tag is. The operation is not forced.
abbrev pub IsInTheWay : List Record → NamedOp → Record → Type 0
IsInTheWay seen op r =
    (is_forced op.kind ≡ false)
    × (((record_at seen op.name ≡ Some r) × (is_stale op.draft.tag r ≡ true))
    ⊎ ((record_at seen op.name ≡ None) × (begins_share seen op ≡ true)
    × (option_and_then (record_at seen) (root_given op.draft) ≡ Some r) × (is_stale (root_tag_given op.draft) r ≡ true)))

abbrev pub IsShown : Request → NamedOp × Option OpFault → Type 0
IsShown q judged = (r : Record) × (outcome_of q judged ≡ Refused Conflict (Some r)) × IsInTheWay q.seen judged.0 r

abbrev pub ShowsConflict : Request → NamedOp × Option OpFault → Type 0
ShowsConflict q judged = judged.1 ≡ Some Conflict → IsShown q judged

-- A refusal shows a record only where it is a conflict, and each conflict shows the record that stands in its way.
pub record ConflictsShowRecords : Type 0 where
  pub only : (q : Request) (op : NamedOp) (judged : Option OpFault) (fault : OpFault) (r : Record)
      → outcome_of q (op, judged) ≡ Refused fault (Some r) → fault ≡ Conflict
  pub each : (q : Request) (view : View) (pasts : List Past) (ops : List NamedOp) (caller : Caller) → q.seen ≡ view.rows
      → AllByRecursion (ShowsConflict q) (zip ops (judgement view pasts ops caller))

-- each operation is judged
abbrev pub EachIsJudged : Type 0
EachIsJudged = (view : View) (pasts : List Past) (ops : List NamedOp) (caller : Caller)
    → length (judgement view pasts ops caller) ≡ length ops

abbrev pub HasNextTag : (List ℕ → ℕ) → Write → Type 0
HasNextTag puts (Write.Put r) = r.tag ≡ suc (puts r.name)
HasNextTag puts (Write.Remove x) = ⊤
HasNextTag puts (Write.PutRemove x) = ⊤

-- What a request commits is in order by name, and its puts have the next tags, whatever names go.
pub record EffectsAreInOrder : Type 0 where
  pub ordered : (caller : Caller) (moment : ℕ) (log : List Commit) (ops : List NamedOp) (gone : List (List ℕ))
      → are_in_order (writes (request_at caller moment log ops) gone) ≡ true
  pub tagged : (q : Request) (gone : List (List ℕ)) → AllByRecursion (HasNextTag q.puts) (writes q gone)

-- Where the zone is there and no root is given twice, what a request commits may follow after any lawful log: as one,
-- and one operation after another.
pub record EffectsAreLawful : Type 0 where
  pub as_one : (caller : Caller) (moment : ℕ) (log : List Commit) (ops : List NamedOp)
      → MayFollowInTurn [] log → (zone_at log caller.key).there ≡ true → has_twice (roots_in ops) ≡ false
      → MayFollowInTurn log (effect_at caller moment log ops)
  pub requests : (caller : Caller) (moment : ℕ) (log : List Commit) (atomic : Bool) (ops : List NamedOp)
      → MayFollowInTurn [] log → (zone_at log caller.key).there ≡ true → has_twice (roots_in ops) ≡ false
      → MayFollowInTurn log (commits_of_request caller moment log atomic ops)

-- a put as requests give it, with its name, and with a GUID where it gives a root
pub record IsGivenPut (p : NamedOp) : Type 0 where
  pub name : IsName p.name
  pub meant : IsMeantDraft p.draft
  pub drawn : is_some p.draft.for_root ≡ true → IsGuid p.guid

-- after the commits, the count of puts of each name that they put is in its range
abbrev pub HaveRoom : List Commit → ZoneKey → List Commit → Type 0
HaveRoom log key commits = (x : List ℕ) → list_any (λ (c : Commit). act_puts x c.act) commits ≡ true
    → puts_at (log ++ commits) key x < 2 ^ 64

abbrev pub writes_in : Act → List Write
writes_in (Writes ws) = ws
writes_in MakeZone = []
writes_in DropZone = []
writes_in (SetSubscription s) = []
writes_in (DropSubscription scope id) = []

-- as many writes as a commit may have
abbrev pub HasFewWrites : Commit → Type 0
HasFewWrites c = length (writes_in c.act) < 2 ^ 32

-- What a request commits has the form of a commit, where all commits before it have, by a user and at a moment in their
-- forms, as long as no count passes its range: as one, and one operation after another.
pub record EffectsAreInForm : Type 0 where
  pub as_one : (caller : Caller) (moment : ℕ) (log : List Commit) (ops : List NamedOp)
      → MayFollowInTurn [] log → AllByRecursion IsInForm log → (zone_at log caller.key).there ≡ true
      → has_twice (roots_in ops) ≡ false → AllByRecursion IsGivenPut (puts_in ops)
      → IsKey caller.key → IsName caller.user → moment < 2 ^ 64
      → (let commits = effect_at caller moment log ops in
      HaveRoom log caller.key commits → AllByRecursion HasFewWrites commits → AllByRecursion IsInForm commits)
  pub requests : (caller : Caller) (moment : ℕ) (log : List Commit) (atomic : Bool) (ops : List NamedOp)
      → MayFollowInTurn [] log → AllByRecursion IsInForm log → (zone_at log caller.key).there ≡ true
      → has_twice (roots_in ops) ≡ false → AllByRecursion IsGivenPut (puts_in ops)
      → IsKey caller.key → IsName caller.user → moment < 2 ^ 64
      → (let commits = commits_of_request caller moment log atomic ops in
      HaveRoom log caller.key commits → AllByRecursion HasFewWrites commits → AllByRecursion IsInForm commits)
