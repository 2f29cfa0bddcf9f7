-- The files that a map from names to contents stands for, after a look-up and a change of the map.
use Rattle.std.proofs.Common.{◌≡◌, ℕ, Bool, true, false, cond, List, [], ◌∷◌, map, Option, Some, None, is_some, is_none, not, String, string_bytes, refl, sym, ap, subst, T, ◌∙◌}
use Rattle.std.specs.declared.alloc.Global.{Global}
use Rattle.std.specs.BTreeMap.{BTreeMap, get_by_text, Updates, UpdatesBy, IsOrdered, IsClone}
use Rattle.std.specs.BTreeMap as tree
use Rattle.std.specs.Cmp.{eq_by_cmp_equiv, tied_itself}
use Rattle.std.specs.Cmp.Lexicographic.{slice_cmp, nat_list_cmp_total}
use Rattle.std.specs.Map.{lookup}
use Rattle.std.specs.Option.{option_map, option_and_then}
use Rattle.std.specs.Ordering.{is_eq, is_lt, nat_cmp, eq_by_cmp}
use Rattle.std.specs.declared.cmp.Ordering.{Ordering}
use Rattle.std.specs.declared.cmp.Ordering.TheVariants.{Less, Equal, Greater}
use Rattle.std.specs.List.{AllByRecursion, AllZip}
use Rattle.std.specs.List.Sorted.{IsStrictlySortedBy}
use Rattle.std.specs.FinMap.Entries.{below_all}
use mathlib.Core.Bool.{true≢false, ◌&&◌}
use Rattle.std.specs.Str.{bytes_eq}
use Rattle.std.specs.String.{string_cmp}
use Rattle.std.specs.FinMap.{get, insert, remove, keys, from_entries, from_sorted, get-from_sorted, entries-from_sorted, find, is_sorted, get-from_entries, get-insert, get-remove, same_map, slice_cmp-IsAntisymmetric, nat_cmp-IsAntisymmetric}
use Rattle.std.proofs.lemmas.Map.Text.{btree_map_updates_text, is_eq-slice_cmp}
use Rattle.store.specs.Files.{Files, Synced, Renames, made_if_missing, with_synced, renamed}
use Rattle.store.specs.MemFile.{synced_bytes}
use Rattle.store.specs.declared.mem_file.MemFile.{MemFile}
use Rattle.store.specs.MemStore.{files_of, synced_of}
use Rattle.store.specs.Past.{Holds}

abbrev Tree : Type 0
Tree = BTreeMap (String Global) (MemFile)

abbrev content_of : MemFile → List ℕ
content_of v = v.bytes

found : (es : List (String Global × MemFile)) (q : List ℕ) → find (slice_cmp nat_cmp) q (map (λ e. (string_bytes e.0, e.1.bytes)) es) ≡ option_map content_of (lookup (λ k. is_eq (slice_cmp nat_cmp q (string_bytes k))) es)
found [] q = refl
found (e ∷ es) q =
    elim (is_eq (slice_cmp nat_cmp q (string_bytes e.0))) as (λ b. cond b (Some e.1.bytes) (find (slice_cmp nat_cmp) q (map (λ e. (string_bytes e.0, e.1.bytes)) es)) ≡ option_map content_of (cond b (Some e.1) (lookup (λ k. is_eq (slice_cmp nat_cmp q (string_bytes k))) es))) [ true ↦ refl | false ↦ found es q ]

-- what the files have at a name
pub get-files_of : (m : Tree) (q : List ℕ) → get (files_of m.entries) q ≡ option_map content_of (get_by_text m q)
get-files_of m q = get-from_entries nat_list_cmp_total (map (λ e. (string_bytes e.0, e.1.bytes)) m.entries) q ∙ found m.entries q

pub same_files : (m n : Files) → ((q : List ℕ) → get m q ≡ get n q) → m ≡ n
same_files = same_map nat_list_cmp_total (slice_cmp-IsAntisymmetric nat_cmp-IsAntisymmetric)

-- the tests that the two kinds of map make
turned : (bs q : List ℕ) → bytes_eq bs q ≡ eq_by_cmp (slice_cmp nat_cmp) q bs
turned bs q = sym (is_eq-slice_cmp bs q) ∙ (eq_by_cmp_equiv nat_list_cmp_total).symm bs q

-- after a change of the map at one name
pub updated : (bs : List ℕ) (m n : Tree) (w : Option (MemFile)) → UpdatesBy string_cmp (λ k. slice_cmp nat_cmp bs (string_bytes k)) m n w → (q : List ℕ) → get (files_of n.entries) q ≡ cond (eq_by_cmp (slice_cmp nat_cmp) q bs) (option_map content_of w) (get (files_of m.entries) q)
updated bs m n w u q =
    get-files_of n q ∙ ap (option_map content_of) (btree_map_updates_text bs m n w u q)
    ∙ elim (bytes_eq bs q) as (λ b. option_map content_of (cond b w (get_by_text m q)) ≡ cond b (option_map content_of w) (option_map content_of (get_by_text m q))) [ true ↦ refl | false ↦ refl ]
    ∙ ap (λ b. cond b (option_map content_of w) (option_map content_of (get_by_text m q))) (turned bs q)
    ∙ ap (cond (eq_by_cmp (slice_cmp nat_cmp) q bs) (option_map content_of w)) (sym (get-files_of m q))

pub files-insert : (name file : List ℕ) (k : String Global) (m n : Tree) (v : MemFile) → string_bytes k ≡ name → v.bytes ≡ file → Updates string_cmp m n k (Some v) → files_of n.entries ≡ insert (files_of m.entries) name file
files-insert name file k m n v is_name is_file u =
    same_files _ _ (λ q. updated (string_bytes k) m n (Some v) u q ∙ sym (get-insert nat_list_cmp_total (files_of m.entries) (string_bytes k) v.bytes q))
    ∙ ap (λ x. insert (files_of m.entries) x v.bytes) is_name ∙ ap (insert (files_of m.entries) name) is_file

pub files-remove : (name : List ℕ) (m n : Tree) → UpdatesBy string_cmp (λ k. slice_cmp nat_cmp name (string_bytes k)) m n None → files_of n.entries ≡ remove (files_of m.entries) name
files-remove name m n u = same_files _ _ (λ q. updated name m n None u q ∙ sym (get-remove nat_list_cmp_total (files_of m.entries) name q))

pub files-write : (name file : List ℕ) (m n : Tree) (v : MemFile) → v.bytes ≡ file → UpdatesBy string_cmp (λ k. slice_cmp nat_cmp name (string_bytes k)) m n (Some v) → files_of n.entries ≡ insert (files_of m.entries) name file
files-write name file m n v is_file u =
    same_files _ _ (λ q. updated name m n (Some v) u q ∙ sym (get-insert nat_list_cmp_total (files_of m.entries) name v.bytes q))
    ∙ ap (insert (files_of m.entries) name) is_file

equal_of : (r : Ordering) → is_eq r ≡ true → r ≡ Equal
equal_of Less e = absurd (true≢false (sym e))
equal_of Equal e = refl
equal_of Greater e = absurd (true≢false (sym e))

kept_at : (b : Bool) (x y : Option (List ℕ)) → (b ≡ true → x ≡ y) → cond b x y ≡ y
kept_at true x y h = h refl
kept_at false x y h = refl

-- the insert of what is there already
pub insert_same : (files : Files) (name file : List ℕ) → get files name ≡ Some file → insert files name file ≡ files
insert_same files name file is = same_files _ _ (λ q. get-insert nat_list_cmp_total files name file q
    ∙ kept_at (eq_by_cmp (slice_cmp nat_cmp) q name) (Some file) (get files q)
    (λ same. sym is ∙ ap (get files) (sym (slice_cmp-IsAntisymmetric nat_cmp-IsAntisymmetric q name (equal_of (slice_cmp nat_cmp q name) same)))))

-- the file that a look-up found
pub get-found : (m : Tree) (name : List ℕ) (v : MemFile) → get_by_text m name ≡ Some v → get (files_of m.entries) name ≡ Some v.bytes
get-found m name v is = get-files_of m name ∙ ap (option_map content_of) is

pub get-missed : (m : Tree) (name : List ℕ) → get_by_text m name ≡ None → get (files_of m.entries) name ≡ None
get-missed m name is = get-files_of m name ∙ ap (option_map content_of) is

both : (a b : Bool) → a ≡ true → b ≡ true → (a && b) ≡ true
both a b p q = λ i. p i && q i

below : (x : String Global) (es : List (String Global × MemFile)) → AllByRecursion (λ y. string_cmp x y ≡ Less) (map (λ e. e.0) es) → below_all (slice_cmp nat_cmp) (string_bytes x) (map (λ e. (string_bytes e.0, e.1.bytes)) es) ≡ true
below x [] h = refl
below x (e ∷ es) h = both (is_lt (slice_cmp nat_cmp (string_bytes x) (string_bytes e.0))) _ (ap is_lt h.0) (below x es h.1)

sorted : (es : List (String Global × MemFile)) → IsStrictlySortedBy string_cmp (map (λ e. e.0) es) → is_sorted (slice_cmp nat_cmp) (map (λ e. (string_bytes e.0, e.1.bytes)) es) ≡ true
unfolding IsStrictlySortedBy
sorted [] h = refl
sorted (e ∷ es) h = both _ _ (below e.0 es h.0) (sorted es h.1)

named : (es : List (String Global × MemFile)) → map (λ (e : List ℕ × List ℕ). e.0) (map (λ e. (string_bytes e.0, e.1.bytes)) es) ≡ map string_bytes (map (λ e. e.0) es)
named [] = refl
named (e ∷ es) = ap (λ rest. string_bytes e.0 ∷ rest) (named es)

-- the names of the files
pub keys-files_of : (m : Tree) → IsOrdered string_cmp m → keys (files_of m.entries) ≡ map string_bytes (tree.keys m)
keys-files_of m ordered =
    let es = map (λ e. (string_bytes e.0, e.1.bytes)) m.entries in
    let is : T (is_sorted (slice_cmp nat_cmp) es) = subst T (sym (sorted m.entries ordered)) tt in
    let same : files_of m.entries ≡ from_sorted es = same_files _ _ (λ q. get-from_entries nat_list_cmp_total es q ∙ sym (get-from_sorted (slice_cmp nat_cmp) es q is)) in
    ap keys same ∙ ap (map (λ (e : List ℕ × List ℕ). e.0)) (entries-from_sorted (slice_cmp nat_cmp) es is) ∙ named m.entries

exchanged : (a b : Bool) (x y z : Option (List ℕ)) → (a ≡ true → b ≡ true → ⊥) → cond a x (cond b y z) ≡ cond b y (cond a x z)
exchanged true true x y z apart = absurd (apart refl refl)
exchanged true false x y z apart = refl
exchanged false b x y z apart = refl

pub same_name : (q name : List ℕ) → eq_by_cmp (slice_cmp nat_cmp) q name ≡ true → q ≡ name
same_name q name is = slice_cmp-IsAntisymmetric nat_cmp-IsAntisymmetric q name (equal_of (slice_cmp nat_cmp q name) is)

-- a file that is put before another is removed
pub remove-insert : (files : Files) (from to file : List ℕ) → (from ≡ to → ⊥) → remove (insert files to file) from ≡ insert (remove files from) to file
remove-insert files from to file apart = same_files _ _ (λ q.
    get-remove nat_list_cmp_total (insert files to file) from q
    ∙ ap (cond (eq_by_cmp (slice_cmp nat_cmp) q from) None) (get-insert nat_list_cmp_total files to file q)
    ∙ exchanged (eq_by_cmp (slice_cmp nat_cmp) q from) (eq_by_cmp (slice_cmp nat_cmp) q to) None (Some file) (get files q) (λ a b. apart (sym (same_name q from a) ∙ same_name q to b))
    ∙ ap (cond (eq_by_cmp (slice_cmp nat_cmp) q to) (Some file)) (sym (get-remove nat_list_cmp_total files from q))
    ∙ sym (get-insert nat_list_cmp_total (remove files from) to file q))

shadowed : (b : Bool) (x y z : Option (List ℕ)) → cond b x z ≡ cond b x (cond b y z)
shadowed true x y z = refl
shadowed false x y z = refl

pub insert-remove : (files : Files) (name file : List ℕ) → insert files name file ≡ insert (remove files name) name file
insert-remove files name file = same_files _ _ (λ q.
    get-insert nat_list_cmp_total files name file q
    ∙ shadowed (eq_by_cmp (slice_cmp nat_cmp) q name) (Some file) None (get files q)
    ∙ ap (cond (eq_by_cmp (slice_cmp nat_cmp) q name) (Some file)) (sym (get-remove nat_list_cmp_total files name q))
    ∙ sym (get-insert nat_list_cmp_total (remove files name) name file q))

-- a test for a file
pub is_some-files_of : (m : Tree) (q : List ℕ) → is_some (get (files_of m.entries) q) ≡ is_some (get_by_text m q)
is_some-files_of m q = ap is_some (get-files_of m q) ∙ elim (get_by_text m q) as (λ o. is_some (option_map content_of o) ≡ is_some o) [ None ↦ refl | Some v ↦ refl ]

pub apart_of : (a b : List ℕ) → true ≡ not (bytes_eq a b) → a ≡ b → ⊥
apart_of a b test same = true≢false (test ∙ ap not (ap (bytes_eq a) (sym same) ∙ sym (is_eq-slice_cmp a a) ∙ ap is_eq (tied_itself nat_list_cmp_total a)))

pub same_of : (a b : List ℕ) → false ≡ not (bytes_eq a b) → a ≡ b
same_of a b test = same_name a b (is_eq-slice_cmp a b ∙ twice (bytes_eq a b) test)
  where
    twice : (x : Bool) → false ≡ not x → x ≡ true
    twice true e = refl
    twice false e = absurd (true≢false (sym e))

pub none_of : {X : Type 0} (o : Option X) → false ≡ is_some o → o ≡ None
none_of None e = refl
none_of (Some x) e = absurd (true≢false (sym e))

pub some_of : {X : Type 0} (o : Option X) → false ≡ is_none o → is_some o ≡ true
some_of None e = absurd (true≢false (sym e))
some_of (Some x) e = refl

-- a file that is there isn't missing
pub found_apart : {X P : Type 0} (o : Option X) (x : X) → o ≡ Some x → o ≡ None → P
found_apart o x is none = let clash : Some x ≡ None = sym is ∙ none in absurd (cc)

pub present_apart : {X P : Type 0} (o : Option X) → is_some o ≡ true → o ≡ None → P
present_apart o present none = absurd (true≢false (sym present ∙ ap is_some none))

pub some_with : (o : Option (List ℕ)) → is_some o ≡ true → (x : List ℕ) × (o ≡ Some x)
some_with None e = absurd (true≢false (sym e))
some_with (Some x) e = (x, refl)

-- a file keeps its content if another name is removed
pub get-remove_other : (files : Files) (from to : List ℕ) → (from ≡ to → ⊥) → get (remove files from) to ≡ get files to
get-remove_other files from to apart = get-remove nat_list_cmp_total files from to ∙ other (eq_by_cmp (slice_cmp nat_cmp) to from) (λ same. apart (sym (same_name to from same)))
  where
    other : (b : Bool) → (b ≡ true → ⊥) → cond b None (get files to) ≡ get files to
    other true h = absurd (h refl)
    other false h = refl

get-insert_other : (files : Files) (from to file : List ℕ) → (from ≡ to → ⊥) → get (insert files to file) from ≡ get files from
get-insert_other files from to file apart = get-insert nat_list_cmp_total files to file from ∙ other (eq_by_cmp (slice_cmp nat_cmp) from to) (λ same. apart (same_name from to same))
  where
    other : (b : Bool) → (b ≡ true → ⊥) → cond b (Some file) (get files from) ≡ get files from
    other true h = absurd (h refl)
    other false h = refl

pub get-insert_same : (files : Files) (name file : List ℕ) → get (insert files name file) name ≡ Some file
get-insert_same files name file = get-insert nat_list_cmp_total files name file name ∙ ap (λ b. cond b (Some file) (get files name)) (ap is_eq (tied_itself nat_list_cmp_total name))

insert_twice : (files : Files) (name file last : List ℕ) → insert (insert files name file) name last ≡ insert files name last
insert_twice files name file last = same_files _ _ (λ q.
    get-insert nat_list_cmp_total (insert files name file) name last q
    ∙ ap (cond (eq_by_cmp (slice_cmp nat_cmp) q name) (Some last)) (get-insert nat_list_cmp_total files name file q)
    ∙ sym (shadowed (eq_by_cmp (slice_cmp nat_cmp) q name) (Some last) (Some file) (get files q))
    ∙ sym (get-insert nat_list_cmp_total files name last q))

-- a file that has its own name again
pub renames_itself : (files : Files) (from to : List ℕ) → is_some (get files from) ≡ true → from ≡ to → Renames files files from to
renames_itself files from to present same =
    let found = some_with (get files from) present in
    (found.0, found.1, sym (insert_same files from found.0 found.1) ∙ insert-remove files from found.0 ∙ ap (λ x. insert (remove files from) x found.0) same)

abbrev Moves : Files → Files → List ℕ → List ℕ → Type 0
Moves old new from to = (bytes : List ℕ) → get old from ≡ Some bytes → is_some (get old to) ≡ true → (from ≡ to → ⊥) → new ≡ insert (remove old from) to bytes

moves_other : (files new : Files) (from to : List ℕ) → is_some (get files from) ≡ true → (from ≡ to → ⊥) → (there : Bool) → there ≡ is_some (get files to)
    → Moves (cond there files (insert files to [])) new from to → Renames files new from to
moves_other files new from to present apart true there moves =
    let found = some_with (get files from) present in
    (found.0, found.1, moves found.0 found.1 (sym there) apart)
moves_other files new from to present apart false there moves =
    let found = some_with (get files from) present in (
      found.0,
      found.1,
      moves found.0 (get-insert_other files from to [] apart ∙ found.1) (ap is_some (get-insert_same files to [])) apart
          ∙ ap (λ x. insert x to found.0) (remove-insert files from to [] apart)
          ∙ insert_twice (remove files from) to [] found.0,
    )

-- a file that replaces another, which was made if it was missing
pub renames_other : (files new : Files) (from to : List ℕ) → is_some (get files from) ≡ true → (from ≡ to → ⊥) → Moves (made_if_missing files to) new from to → Renames files new from to
renames_other files new from to present apart moves = moves_other files new from to present apart (is_some (get files to)) refl moves

abbrev contents : (String Global × MemFile) → List ℕ × List ℕ
contents e = (string_bytes e.0, e.1.bytes)

same_entries : (es fs : List (String Global × MemFile))
    → AllZip (λ p q. (string_bytes q.0 ≡ string_bytes p.0) × (q.1 ≡ p.1)) es fs
    → map contents fs ≡ map contents es
same_entries [] [] h = refl
same_entries [] (f ∷ fs) h = absurd h
same_entries (e ∷ es) [] h = absurd h
same_entries (e ∷ es) (f ∷ fs) h =
    let items : f.1.bytes ≡ e.1.bytes = ap (λ (v : MemFile). v.bytes) h.0.1 in
    let bytes : string_bytes f.0 ≡ string_bytes e.0 = h.0.0 in
    let first : contents f ≡ contents e = (cc) in
    ap (λ x. x ∷ map contents fs) first ∙ ap (λ rest. contents e ∷ rest) (same_entries es fs h.1)

-- a copy of a map stands for the same files
pub files-clone : (m n : Tree) → IsClone (λ s t. string_bytes t ≡ string_bytes s) (λ v w. w ≡ v) m n → files_of n.entries ≡ files_of m.entries
files-clone m n h = ap from_entries (same_entries m.entries n.entries h)

-- ---- a file that was made if it was missing

made_at : (b : Bool) (files : Files) (to : List ℕ) → is_some (get files to) ≡ b → is_some (get (cond b files (insert files to [])) to) ≡ true
made_at true files to is = is
made_at false files to is = ap is_some (get-insert_same files to [])

pub made_there : (files : Files) (to : List ℕ) → is_some (get (made_if_missing files to) to) ≡ true
made_there files to = made_at (is_some (get files to)) files to refl

still_at : (b c : Bool) (files : Files) (from to : List ℕ) → eq_by_cmp (slice_cmp nat_cmp) from to ≡ c → is_some (get files from) ≡ true → is_some (get (cond b files (insert files to [])) from) ≡ true
still_at true c files from to is there = there
still_at false true files from to is there = ap is_some (get-insert nat_list_cmp_total files to [] from ∙ ap (λ b. cond b (Some []) (get files from)) is)
still_at false false files from to is there = ap is_some (get-insert nat_list_cmp_total files to [] from ∙ ap (λ b. cond b (Some []) (get files from)) is) ∙ there

-- so is every file that was there
pub made_still : (files : Files) (from to : List ℕ) → is_some (get files from) ≡ true → is_some (get (made_if_missing files to) from) ≡ true
made_still files from to there = still_at (is_some (get files to)) (eq_by_cmp (slice_cmp nat_cmp) from to) files from to refl there

-- ---- what is synced

abbrev kept_of : Option MemFile → Option (List ℕ)
kept_of file = option_and_then (λ (v : MemFile). synced_bytes v) file

abbrev Changed : List ℕ → Tree → Tree → Option MemFile → Type 0
Changed name m n w = UpdatesBy string_cmp (λ k. slice_cmp nat_cmp name (string_bytes k)) m n w

-- after a change of the map at one name
pub synced-change : (name : List ℕ) (m n : Tree) (w : Option MemFile) → Changed name m n w → synced_of n.entries ≡ with_synced (synced_of m.entries) name (kept_of w)
synced-change name m n w u = λ i q. at q i
  where
    at : (q : List ℕ) → synced_of n.entries q ≡ with_synced (synced_of m.entries) name (kept_of w) q
    at q =
        ap kept_of (btree_map_updates_text name m n w u q)
        ∙ elim (bytes_eq name q) as (λ b. kept_of (cond b w (get_by_text m q)) ≡ cond b (kept_of w) (kept_of (get_by_text m q))) [ true ↦ refl | false ↦ refl ]
        ∙ ap (λ b. cond b (kept_of w) (kept_of (get_by_text m q))) (turned name q)

-- the same of a key that has this name
pub synced-insert : (name : List ℕ) (k : String Global) (m n : Tree) (v : MemFile) → string_bytes k ≡ name → Updates string_cmp m n k (Some v) → synced_of n.entries ≡ with_synced (synced_of m.entries) name (synced_bytes v)
synced-insert name k m n v is u = synced-change (string_bytes k) m n (Some v) u ∙ ap (λ x. with_synced (synced_of m.entries) x (synced_bytes v)) is

-- what is synced of a file that a look-up found, and of one that is missing
pub synced-found : (m : Tree) (name : List ℕ) (v : MemFile) → get_by_text m name ≡ Some v → synced_of m.entries name ≡ synced_bytes v
synced-found m name v is = ap kept_of is

pub synced-missed : (m : Tree) (name : List ℕ) → get_by_text m name ≡ None → synced_of m.entries name ≡ None
synced-missed m name is = ap kept_of is

-- what was synced is synced
pub synced_same : (s : Synced) (name : List ℕ) (content : Option (List ℕ)) → s name ≡ content → with_synced s name content ≡ s
synced_same s name content is = λ i q. kept_at (eq_by_cmp (slice_cmp nat_cmp) q name) content (s q) (λ same. sym is ∙ ap s (sym (same_name q name same))) i

-- a file that has its own name again
pub synced_itself : (s : Synced) (from to : List ℕ) → from ≡ to → s ≡ renamed s from to
synced_itself s from to same = λ i q. at q i
  where
    back : (q : List ℕ) (b : Bool) → (b ≡ true → q ≡ from) → s q ≡ cond b (s from) (cond b None (s q))
    back q true h = ap s (h refl)
    back q false h = refl

    at : (q : List ℕ) → s q ≡ renamed s from to q
    at q = back q (eq_by_cmp (slice_cmp nat_cmp) q from) (same_name q from)
        ∙ ap (λ t. cond (eq_by_cmp (slice_cmp nat_cmp) q t) (s from) (with_synced s from None q)) same

same_look_up : (es fs : List (String Global × MemFile)) → AllZip (λ p q. (string_bytes q.0 ≡ string_bytes p.0) × (q.1 ≡ p.1)) es fs
    → (q : List ℕ) → synced_of fs q ≡ synced_of es q
same_look_up [] [] h q = refl
same_look_up [] (f ∷ fs) h q = absurd h
same_look_up (e ∷ es) [] h q = absurd h
same_look_up (e ∷ es) (f ∷ fs) h q =
    by_test f (is_eq (slice_cmp nat_cmp q (string_bytes f.0))) fs refl
    ∙ (λ i. cond (is_eq (slice_cmp nat_cmp q (h.0.0 i))) (synced_bytes (h.0.1 i)) (same_look_up es fs h.1 q i))
    ∙ sym (by_test e (is_eq (slice_cmp nat_cmp q (string_bytes e.0))) es refl)
  where
    by_test : (e : String Global × MemFile) (b : Bool) (rest : List (String Global × MemFile)) → is_eq (slice_cmp nat_cmp q (string_bytes e.0)) ≡ b
        → synced_of (e ∷ rest) q ≡ cond (is_eq (slice_cmp nat_cmp q (string_bytes e.0))) (synced_bytes e.1) (synced_of rest q)
    by_test e b rest is = elim (is_eq (slice_cmp nat_cmp q (string_bytes e.0))) as (λ t. kept_of (cond t (Some e.1) (lookup (λ k. is_eq (slice_cmp nat_cmp q (string_bytes k))) rest)) ≡ cond t (synced_bytes e.1) (synced_of rest q)) [ true ↦ refl | false ↦ refl ]

-- a copy of a map has the same synced
pub synced-clone : (m n : Tree) → IsClone (λ s t. string_bytes t ≡ string_bytes s) (λ v w. w ≡ v) m n → synced_of n.entries ≡ synced_of m.entries
synced-clone m n h = λ i q. same_look_up m.entries n.entries h q i

-- ---- what a name holds

pub held_at : (m : Tree) (name : List ℕ) (held : Option MemFile) → held ≡ get_by_text m name → Holds (record { files = files_of m.entries; synced = synced_of m.entries }) name held
held_at m name held is = (get-files_of m name ∙ ap (option_map content_of) (sym is), ap kept_of (sym is))

pub held_by_key : (name : List ℕ) (k : String Global) (m : Tree) (held : Option MemFile) → string_bytes k ≡ name → held ≡ tree.get string_cmp m k → Holds (record { files = files_of m.entries; synced = synced_of m.entries }) name held
held_by_key name k m held is old = held_at m name held (old ∙ ap (get_by_text m) is)

-- what is synced of a file stays if another is removed
pub synced_other : (m n : Tree) (from to : List ℕ) → (from ≡ to → ⊥) → Changed from m n None → synced_of m.entries to ≡ synced_of n.entries to
synced_other m n from to apart u = sym (ap (λ (s : Synced). s to) (synced-change from m n None u) ∙ other (eq_by_cmp (slice_cmp nat_cmp) to from) (λ same. apart (sym (same_name to from same))))
  where
    other : (b : Bool) → (b ≡ true → ⊥) → cond b None (synced_of m.entries to) ≡ synced_of m.entries to
    other true h = absurd (h refl)
    other false h = refl

-- ---- tests

pub same_eq : (a b : List ℕ) → true ≡ bytes_eq a b → a ≡ b
same_eq a b test = same_name a b (is_eq-slice_cmp a b ∙ sym test)

pub apart_eq : (a b : List ℕ) → false ≡ bytes_eq a b → a ≡ b → ⊥
apart_eq a b test same = true≢false (sym (test ∙ ap (bytes_eq a) (sym same) ∙ sym (is_eq-slice_cmp a a) ∙ ap is_eq (tied_itself nat_list_cmp_total a)))

-- ---- a file that was made if it was missing, and what was there

pub none_of_missing : (files : Files) (name : List ℕ) (made : Bool) → made ≡ true → is_some (get files name) ≡ cond made false true → get files name ≡ None
none_of_missing files name made is test = none_of (get files name) (sym (test ∙ ap (λ b. cond b false true) is))

pub made_new : (files new : Files) (name : List ℕ) (made : Bool) → made ≡ true → is_some (get files name) ≡ cond made false true → new ≡ made_if_missing files name → new ≡ insert files name []
made_new files new name made is test so = so ∙ ap (λ b. cond b files (insert files name [])) (test ∙ ap (λ b. cond b false true) is)

pub made_not : (files new : Files) (name : List ℕ) (made : Bool) → made ≡ false → is_some (get files name) ≡ cond made false true → new ≡ made_if_missing files name → new ≡ files
made_not files new name made is test so = so ∙ ap (λ b. cond b files (insert files name [])) (test ∙ ap (λ b. cond b false true) is)

pub held_unless : (m : Tree) (mid : Files) (kept : Synced) (to : List ℕ) (made : Bool) (held : Option MemFile) → is_some (get (files_of m.entries) to) ≡ cond made false true
    → mid ≡ made_if_missing (files_of m.entries) to → kept ≡ synced_of m.entries → Holds (record { files = mid; synced = kept }) to held
    → Holds (record { files = files_of m.entries; synced = synced_of m.entries }) to (cond made None held)
held_unless m mid kept to true held test is same h = held_at m to None (sym (none_of (get_by_text m to) (sym (sym (is_some-files_of m to) ∙ test))))
held_unless m mid kept to false held test is same h =
    (ap (λ (f : Files). get f to) (sym (made_not (files_of m.entries) mid to false refl test is)) ∙ h.0, ap (λ (s : Synced). s to) (sym same) ∙ h.1)
