-- Lists of replies, of entries of any kind.
use Rattle.std.proofs.Common.{◌≡◌, ◌==◌, ℕ, zero, suc, ◌+◌, Ordering, Less, Equal, Greater, nat_cmp, is_eq, option_and_then, String, Bool, true, false, List, [], ◌∷◌, ◌++◌, map, length, take, None, Some, inl, inr, refl, sym, ap, ap₂, subst, ◌∙◌, arith, ◌<◌, ◌≤◌, get_or, slice_get, option_map}
use Rattle.std.specs.Prelude.{Result, Ok, Err}
use Rattle.std.proofs.lemmas.Bool.{ne_eqb}
use Rattle.std.proofs.lemmas.List.{map-append, take_all, take-map, take_more}
use Rattle.std.proofs.lemmas.Option.{slice_get_read, slice_get-map}
use Rattle.std.proofs.lemmas.Slice.Zip.{AllZip-long, all_zipped_more}
use Rattle.std.specs.List.{AllZip}
use Rattle.std.proofs.lemmas.Map.Text.{is_eq-slice_cmp}
use Rattle.std.proofs.lemmas.Slice.Eq.{bytes_eq-Decides}
use Rattle.std.specs.Cmp.Lexicographic.{slice_cmp}
use Rattle.std.specs.Ordering.{match_ordering}
use Rattle.std.specs.declared.alloc.Global.{Global}
use Rattle.serde_json.specs.Find.{as_array, as_object}
use Rattle.serde_json.specs.Data.{Data, null, boolean, number, string, array, object, Items, Members, no_members, member}
use Rattle.serde_json.specs.View.{view, items_of, members_view}
use Rattle.serde_json.specs.declared.value.Value.{Value}
use Rattle.ck_base.specs.Told.{IsToldUnless}
use Rattle.field_values.specs.Members.{found, unless_null, elements}
use Rattle.field_values.proofs.ListLemmas.{elements_items}
use Rattle.wire_calls.specs.declared.reply_fault.ReplyFault.{ReplyFault}
use Rattle.wire_calls.specs.declared.reply_fault.ReplyFault.TheVariants.{BadReply, NoMemory}
use Rattle.wire_calls.specs.Lists.{list_data}
use Rattle.wire_calls.specs.ReplyLists.{IsEntryFor, IsAnswered, IsFirstWrong, IsListOf, IsListFor, IsBadList, Tells}
use Rattle.wire_calls.specs.Found.{AreEntriesFor, has_one_member}

-- ---- the entries, one after another

-- what holds of the elements at each place
at_place : {A B : Type 0} (R : A → B → Type 0) (xs : List A) (ys : List B) → AllZip R xs ys → (i : ℕ) (x : A) (y : B) → slice_get xs i ≡ Some x → slice_get ys i ≡ Some y → R x y
at_place R [] [] all i x y at_x at_y = absurd (cc at_x)
at_place R [] (b ∷ ys) all i x y at_x at_y = absurd all
at_place R (a ∷ xs) [] all i x y at_x at_y = absurd all
at_place R (a ∷ xs) (b ∷ ys) all zero x y at_x at_y =
    let here_x : a ≡ x = cc at_x in
    let here_y : b ≡ y = cc at_y in
    subst (λ z. R x z) here_y (subst (λ z. R z b) here_x all.0)
at_place R (a ∷ xs) (b ∷ ys) all (suc i) x y at_x at_y = at_place R xs ys all.1 i x y at_x at_y

-- one more, where the next stands at its place
next : {A : Type 0} (xs : List A) (i : ℕ) (x : A) → i < length xs → x ≡ get_or xs i x → take (i + 1) xs ≡ take i xs ++ x ∷ []
next xs i x within at = take_more xs i x within ∙ ap (λ y. take i xs ++ y ∷ []) (sym at)

pub map_count : {A B : Type 0} (f : A → B) (xs : List A) → length (map f xs) ≡ length xs
map_count f [] = refl
map_count f (x ∷ xs) = ap suc (map_count f xs)

module _ {A E : Type 0} (Is : A → E → Type 0) (write : E → Data) where
  -- an entry that is asked for is one of its JSON
  answer_of : (a : A) (e : E) → Is a e → IsEntryFor Is write a (write e) e
  answer_of a e is = record { asked = is; written = refl }

  each_answered : (wants : List A) (es : List E) → AllZip Is wants es → AllZip (IsAnswered Is write) wants (map write es)
  each_answered [] [] are = tt
  each_answered [] (e ∷ es) are = absurd are
  each_answered (a ∷ wants) [] are = absurd are
  each_answered (a ∷ wants) (e ∷ es) are = ((e, answer_of a e are.0), each_answered wants es are.1)

  all_answered : (wants : List A) (ds : List Data) (es : List E) → AreEntriesFor Is write wants ds es → AllZip (IsAnswered Is write) wants ds
  all_answered wants ds es are = subst (AllZip (IsAnswered Is write) wants) are.written (each_answered wants es are.asked)

  module _ (wants : List A) (items : List Value) (done : List E) (i : ℕ) (a : A) (v : Value)
      (within_wants : i < length wants) (within : i < length items) (asked_is : a ≡ get_or wants i a) (item_is : v ≡ get_or items i v)
      (so_far : AreEntriesFor Is write (take i wants) (map view (take i items)) done) where
    pub one_more : (e : E) → IsEntryFor Is write a (view v) e
        → AreEntriesFor Is write (take (i + 1) wants) (map view (take (i + 1) items)) (done ++ e ∷ [])
    one_more e is =
        let last : map write (e ∷ []) ≡ map view (v ∷ []) = ap (λ d. d ∷ []) is.written in
        record {
          asked = subst (λ ws. AllZip Is ws (done ++ e ∷ [])) (sym (next wants i a within_wants asked_is)) (all_zipped_more Is (take i wants) done a e so_far.asked is.asked);
          written = map-append write done (e ∷ []) ∙ ap₂ (λ xs ys. xs ++ ys) so_far.written last
              ∙ sym (ap (map view) (next items i v within item_is) ∙ map-append view (take i items) (v ∷ []));
        }

    pub wrong_here : ((e : E) → IsEntryFor Is write a (view v) e → ⊥) → IsFirstWrong Is write wants (map view items) (i + 1)
    wrong_here none = record {
      before = i;
      number = refl;
      asked = a;
      json = view v;
      wanted = slice_get_read wants (length wants) i a refl within_wants asked_is;
      told = slice_get-map view items i ∙ ap (option_map view) (slice_get_read items (length items) i v refl within item_is);
      wrong = λ is. none is.0 is.1;
      right = subst (AllZip (IsAnswered Is write) (take i wants)) (sym (take-map view i items)) (all_answered (take i wants) (map view (take i items)) done so_far);
    }

  pub all_read : (wants : List A) (items : List Value) (done : List E) (i : ℕ) → length items ≤ i → length items ≡ length wants
      → AreEntriesFor Is write (take i wants) (map view (take i items)) done → AreEntriesFor Is write wants (map view items) done
  all_read wants items done i past count so_far =
      let whole_wants : take i wants ≡ wants = take_all i wants (omega (arith, past, count)) in
      let whole_items : take i items ≡ items = take_all i items past in
      subst (λ ws. AreEntriesFor Is write ws (map view items) done) whole_wants
      (subst (λ vs. AreEntriesFor Is write (take i wants) (map view vs) done) whole_items so_far)

  -- ---- entries and their JSON

  pub no_first_wrong : (wants : List A) (es : List E) (at : ℕ) → AllZip Is wants es → IsFirstWrong Is write wants (map write es) at → ⊥
  no_first_wrong wants es at are first =
      first.wrong (at_place (IsAnswered Is write) wants (map write es) (each_answered wants es are) first.before first.asked first.json first.wanted first.told)

  -- where no JSON is that of two entries that are asked for, none is that of two lists
  pub same_entries : ((a : A) (e f : E) → Is a e → Is a f → write e ≡ write f → e ≡ f)
      → (wants : List A) (es fs : List E) → AllZip Is wants es → AllZip Is wants fs → map write es ≡ map write fs → es ≡ fs
  same_entries alone [] [] [] one two same = refl
  same_entries alone [] [] (f ∷ fs) one two same = absurd two
  same_entries alone [] (e ∷ es) fs one two same = absurd one
  same_entries alone (a ∷ wants) [] fs one two same = absurd one
  same_entries alone (a ∷ wants) (e ∷ es) [] one two same = absurd two
  same_entries alone (a ∷ wants) (e ∷ es) (f ∷ fs) one two same =
      let here : write e ≡ write f = cc same in
      let others : map write es ≡ map write fs = cc same in
      rw (alone a e f one.0 two.0 here, same_entries alone wants es fs one.1 two.1 others) refl

  pub answers_count : (wants : List A) (es : List E) → AllZip Is wants es → length es ≡ length wants
  answers_count wants es are = AllZip-long Is wants es are

-- ---- an object with a list alone

abbrev list_in_items : Data → List Data
list_in_items null = []
list_in_items (boolean b) = []
list_in_items (number n) = []
list_in_items (string s) = []
list_in_items (array ds) = elements ds
list_in_items (object ms) = []

abbrev list_in : Data → List Data
list_in null = []
list_in (boolean b) = []
list_in (number n) = []
list_in (string s) = []
list_in (array ds) = []
list_in (object no_members) = []
list_in (object (member k d ms)) = list_in_items d

in_listing : (name : List ℕ) (ds : List Data) → list_in (list_data name ds) ≡ ds
in_listing name ds = elements_items ds

pub one_listing : (name : List ℕ) (d : Data) (ds es : List Data) → list_data name ds ≡ d → list_data name es ≡ d → ds ≡ es
one_listing name d ds es one two = sym (in_listing name ds) ∙ ap list_in (one ∙ sym two) ∙ in_listing name es

one_in_view : (ms : List (String Global × Value)) → has_one_member (object (members_view ms)) ≡ (length ms == 1)
one_in_view [] = refl
one_in_view (m ∷ []) = refl
one_in_view (m ∷ n ∷ ms) = sym (ne_eqb (length (m ∷ n ∷ ms)) 1 (λ e. omega (arith, e)))

pub one_member : (d : Data) (ms : List (String Global × Value)) → as_object d ≡ Some (members_view ms) → has_one_member d ≡ (length ms == 1)
one_member d ms is = ap has_one_member (an_object d (members_view ms) is) ∙ one_in_view ms where
  an_object : (d : Data) (ms : Members) → as_object d ≡ Some ms → d ≡ object ms
  an_object null ms is = absurd (cc is)
  an_object (boolean b) ms is = absurd (cc is)
  an_object (number n) ms is = absurd (cc is)
  an_object (string s) ms is = absurd (cc is)
  an_object (array ds) ms is = absurd (cc is)
  an_object (object ns) ms is = cc is

pub no_object : (d : Data) → as_object d ≡ None → has_one_member d ≡ false
no_object null is = refl
no_object (boolean b) is = refl
no_object (number n) is = refl
no_object (string s) is = refl
no_object (array ds) is = refl
no_object (object ms) is = absurd (cc is)

array_read : (e : Data) (xs : Items) → option_and_then as_array (unless_null e) ≡ Some xs → array xs ≡ e
array_read null xs read = absurd (cc read)
array_read (boolean b) xs read = absurd (cc read)
array_read (number n) xs read = absurd (cc read)
array_read (string s) xs read = absurd (cc read)
array_read (array ds) xs read = cc read
array_read (object ms) xs read = absurd (cc read)

whole_list : (name : List ℕ) (d : Data) (xs : Items) → has_one_member d ≡ true → option_and_then as_array (found name d) ≡ Some xs → object (member name (array xs) no_members) ≡ d
whole_list name null xs one read = absurd (cc one)
whole_list name (boolean b) xs one read = absurd (cc one)
whole_list name (number n) xs one read = absurd (cc one)
whole_list name (string s) xs one read = absurd (cc one)
whole_list name (array ds) xs one read = absurd (cc one)
whole_list name (object no_members) xs one read = absurd (cc one)
whole_list name (object (member k e (member l f ms))) xs one read = absurd (cc one)
whole_list name (object (member k e no_members)) xs one read = by (slice_cmp nat_cmp name k) refl read where
  by : (o : Ordering) → slice_cmp nat_cmp name k ≡ o → option_and_then as_array (option_and_then unless_null (match_ordering o None (Some e) None)) ≡ Some xs
      → object (member name (array xs) no_members) ≡ object (member k e no_members)
  by Less same read = absurd (cc read)
  by Greater same read = absurd (cc read)
  by Equal same read =
      let is_name : name ≡ k = (bytes_eq-Decides name k).0 (sym (is_eq-slice_cmp name k) ∙ ap is_eq same) in
      let value : array xs ≡ e = array_read e xs read in
      cc (is_name, value)

pub is_listing : (name : List ℕ) (d : Data) (ds : List Data) → has_one_member d ≡ true → option_and_then as_array (found name d) ≡ Some (items_of ds) → list_data name ds ≡ d
is_listing name d ds one read = whole_list name d (items_of ds) one read

pub not_one : (name : List ℕ) (d : Data) → has_one_member d ≡ false → (ds : List Data) → list_data name ds ≡ d → ⊥
not_one name d other ds is = cc (ap has_one_member is, other)

itself : (name : List ℕ) → slice_cmp nat_cmp name name ≡ Equal
itself name = by (slice_cmp nat_cmp name name) (is_eq-slice_cmp name name ∙ (bytes_eq-Decides name name).1 refl) where
  by : (o : Ordering) → is_eq o ≡ true → o ≡ Equal
  by Less is = absurd (cc is)
  by Equal is = refl
  by Greater is = absurd (cc is)

list_there : (name : List ℕ) (ds : List Data) → option_and_then as_array (found name (list_data name ds)) ≡ Some (items_of ds)
list_there name ds = ap (λ o. option_and_then as_array (option_and_then unless_null (match_ordering o None (Some (array (items_of ds))) None))) (itself name)

pub no_array : (name : List ℕ) (d : Data) → option_and_then as_array (found name d) ≡ None → (ds : List Data) → list_data name ds ≡ d → ⊥
no_array name d none ds is = cc (list_there name ds, none, ap (λ e. option_and_then as_array (found name e)) is)

-- ---- lists for what is asked

module _ {A E : Type 0} (Is : A → E → Type 0) (write : E → Data) (name : List ℕ) (wants : List A) (d : Data) where
  -- the whole is no list of as many
  pub no_list : ((ds : List Data) → list_data name ds ≡ d → ⊥) → IsBadList Is write name wants d 0
  no_list none = inl (refl, λ ds is. none ds is.written)

  pub other_count : (ds : List Data) → list_data name ds ≡ d → (length ds ≡ length wants → ⊥) → IsBadList Is write name wants d 0
  other_count ds is other = inl (refl, λ es lists. other (ap length (one_listing name d ds es is lists.written) ∙ lists.count))

  -- what is read of the list that it has
  pub of_entries : (ds : List Data) → list_data name ds ≡ d → length ds ≡ length wants → (answer : Result (List E) ReplyFault)
      → Tells (AreEntriesFor Is write wants ds) (IsFirstWrong Is write wants ds) answer
      → Tells (IsListFor Is write name wants d) (IsBadList Is write name wants d) answer
  of_entries ds is count (Ok es) told = record { asked = told.asked; written = ap (list_data name) told.written ∙ is }
  of_entries ds is count (Err (BadReply at)) told = inr (ds, record { written = is; count = count }, told)
  of_entries ds is count (Err NoMemory) told = tt

  -- where no JSON is that of two lists, a right list is what is told
  pub only_list : ((es fs : List E) → list_data name (map write es) ≡ list_data name (map write fs) → es ≡ fs) → (es : List E) → IsListFor Is write name wants d es
      → (answer : Result (List E) ReplyFault) → Tells (IsListFor Is write name wants d) (IsBadList Is write name wants d) answer → IsToldUnless NoMemory answer (Ok es)
  only_list alone es is (Ok fs) told = λ differs. ap Ok (alone fs es (told.written ∙ sym is.written))
  only_list alone es is (Err (BadReply at)) (inl none) =
      absurd (none.1 (map write es) (record { written = is.written; count = map_count write es ∙ answers_count Is write wants es is.asked }))
  only_list alone es is (Err (BadReply at)) (inr (ds, lists, first)) =
      let same : map write es ≡ ds = one_listing name d (map write es) ds is.written lists.written in
      absurd (no_first_wrong Is write wants es at is.asked (subst (λ xs. IsFirstWrong Is write wants xs at) (sym same) first))
  only_list alone es is (Err NoMemory) told = λ differs. absurd (differs refl)
