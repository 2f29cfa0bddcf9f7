-- What the logs that were begun have after the end of a compaction.
use Rattle.std.proofs.Common.{◌≡◌, inl, inr, ℕ, ◌+◌, ◌<◌, ◌≤◌, Bool, List, Contains, [], ◌∷◌, ◌++◌, length, take, drop, map, sum_by, ap, arith}
use Rattle.std.proofs.lemmas.Bool.{cases_lt}
use Rattle.compact.proofs.Keeping.{keeps_views}
use Rattle.compact.proofs.Parts.{part-members}
use Rattle.compact.specs.Laws.{AreNewerOrDeep}
use Rattle.compact.specs.Needed.{AreNeeded, IsNeeded}
use Rattle.ikey.proofs.SearchedSources.{among_back, among_front, among_split, same_view}
use Rattle.ikey.specs.Entries.{InternalEntry, entry_of}
use Rattle.ikey.specs.Sources.{SameEntries}
use Rattle.ikey.specs.Views.{Among, AllUpTo, Contents, IsView}
use Rattle.ikey.specs.declared.entry.Entry.{Entry}
use Rattle.machine.specs.Machine.{Machine, view_at}
use Rattle.recover.proofs.Memberships.{among_chosen, among_contents, among_rest}
use Rattle.recover.specs.Logs.{LogContent, logged}
use Rattle.recover.specs.Replacing.{AreParted}
use Rattle.recover.specs.Tables.{TableContent, tabled}
use Rattle.store.specs.Files.{Facts}
use Rattle.engine.specs.internal.Recent.{AreRecent}

-- ---- views at a sequence number that sees all that was compacted

-- The entries up to a sequence number.
record UpTo (sequence : ℕ) (entries : List Entry) : Type 0 where
  part : List Entry
  seen : AllUpTo sequence part
  only : (e : Entry) → Among part e → Among entries e
  all : (e : Entry) → Among entries e → e.sequence ≤ sequence → Among part e

up_to : (sequence : ℕ) (entries : List Entry) → UpTo sequence entries
up_to sequence [] = record { part = []; seen = λ e i. absurd i; only = λ e i. absurd i; all = λ e i le. absurd i }
up_to sequence (x ∷ entries) =
    let rest = up_to sequence entries in
    elim (cases_lt sequence x.sequence) [
      | inl above ↦ record {
        part = rest.part;
        seen = rest.seen;
        only = λ e i. inr (rest.only e i);
        all = λ e i le. elim i [
          | inl is ↦ absurd (let same : e.sequence ≡ x.sequence = ap (λ (y : Entry). y.sequence) is in omega (arith, above, same, le))
          | inr j ↦ rest.all e j le
        ];
      }
      | inr within ↦ record {
        part = x ∷ rest.part;
        seen = λ e i. elim i [ inl is ↦ (let same : e.sequence ≡ x.sequence = ap (λ (y : Entry). y.sequence) is in omega (arith, within, same)) | inr j ↦ rest.seen e j ];
        only = λ e i. elim i [ inl is ↦ inl is | inr j ↦ inr (rest.only e j) ];
        all = λ e i le. elim i [ inl is ↦ inl is | inr j ↦ inr (rest.all e j le) ];
      }
    ]

module _ (xs others : List Entry) (low high : ℕ) (contents : Contents) (order : low ≤ high) (bounded : AllUpTo low xs) (u : UpTo low others) where
  part_upto : AllUpTo low (xs ++ u.part)
  part_upto e i = elim (among_split xs u.part e i) [ inl j ↦ bounded e j | inr j ↦ u.seen e j ]

  out_of_part : (e : Entry) → Among (xs ++ u.part) e → Among (xs ++ others) e
  out_of_part e i = elim (among_split xs u.part e i) [ inl j ↦ among_front xs others e j | inr j ↦ among_back xs others e (u.only e j) ]

  into_part : (e : Entry) → Among (xs ++ others) e → e.sequence ≤ low → Among (xs ++ u.part) e
  into_part e i le = elim (among_split xs others e i) [ inl j ↦ among_front xs u.part e j | inr j ↦ among_back xs u.part e (u.all e j le) ]

  -- what is seen at the lower one is seen of the part at any higher one
  to_part : IsView (xs ++ others) low contents → IsView (xs ++ u.part) high contents
  to_part view = record {
    found = λ e newest. view.found e (record {
      member = out_of_part e newest.member;
      seen = part_upto e newest.member;
      greatest = λ other i is le. newest.greatest other (into_part other i le) is (omega (arith, le, order));
    });
    missing = λ key unseen. view.missing key (λ e i is. elim (cases_lt low e.sequence) [
      | inl above ↦ above
      | inr le ↦ absurd (let past : high < e.sequence = unseen e (into_part e i le) is in omega (arith, past, le, order))
    ]);
  }

  from_part : IsView (xs ++ u.part) high contents → IsView (xs ++ others) low contents
  from_part view = record {
    found = λ e newest. view.found e (record {
      member = into_part e newest.member newest.seen;
      seen = (let le : e.sequence ≤ low = newest.seen in omega (arith, le, order));
      greatest = λ other i is le. newest.greatest other (out_of_part other i) is (part_upto other i);
    });
    missing = λ key unseen. view.missing key (λ e i is. absurd (let past : low < e.sequence = unseen e (out_of_part e i) is in let below : e.sequence ≤ low = part_upto e i in omega (arith, past, below)));
  }

-- A reader at a sequence number that is above all that is compacted sees the same, whether or not
-- the compaction was begun for that sequence number. One of those for which it was begun is above
-- all of it, too.
pub seen_above : (entries needed others : List Entry) (sequences : List ℕ) (deep : List ℕ → Bool) (p reach : ℕ) (contents : Contents) → AreNeeded entries sequences deep needed → AreNewerOrDeep entries others deep
    → Contains sequences reach → AllUpTo reach entries → AllUpTo p entries → IsView (entries ++ others) p contents → IsView (needed ++ others) p contents
seen_above entries needed others sequences deep p reach contents are apart kept above bounded view =
    elim (cases_lt p reach) [
      | inr le ↦ keeps_views entries needed others sequences deep p contents are apart (reach, kept, le, λ e i below. above e i) view
      | inl lower ↦
          let u = up_to p others in
          let low : p ≤ reach = omega (arith, lower) in
          let fewer : AllUpTo p needed = λ e i. bounded e (part-members (IsNeeded entries sequences deep) entries needed e are i).0 in
          from_part needed others p reach contents low fewer u
          (keeps_views entries needed u.part sequences deep reach contents are (λ e other i j is. apart e other i (u.only other j) is) (reach, kept, (let same : reach ≤ reach = omega arith in same), λ e i below. above e i)
          (to_part entries others p reach contents low bounded u view))
    ]

-- ---- in a directory

-- the tables with what has to be kept of some of them in their place
pub parts_seen : (tables inputs rest outputs after : List TableContent) (logs : List Entry) (came : List InternalEntry) (sequences : List ℕ) (deep : List ℕ → Bool) (p reach : ℕ) (contents : Contents)
    → AreParted tables inputs rest → AreParted after outputs rest → SameEntries (map entry_of came) (tabled inputs) → AreNeeded (map entry_of came) sequences deep (tabled outputs)
    → AreNewerOrDeep (tabled inputs) (tabled rest ++ logs) deep → Contains sequences reach → AllUpTo reach (map entry_of came) → AllUpTo p (tabled tables)
    → IsView (tabled tables ++ logs) p contents → IsView (tabled after ++ logs) p contents
parts_seen tables inputs rest outputs after logs came sequences deep p reach contents before then same needed apart kept above bounded view =
    let was : SameEntries (tabled tables ++ logs) (map entry_of came ++ (tabled rest ++ logs)) = λ e. (
      λ i. elim (among_split (tabled tables) logs e i) [
        | inl table ↦ elim (among_contents tables inputs rest e before table) [
          | inl input ↦ among_front (map entry_of came) (tabled rest ++ logs) e ((same e).1 input)
          | inr stays ↦ among_back (map entry_of came) (tabled rest ++ logs) e (among_front (tabled rest) logs e stays)
        ]
        | inr log ↦ among_back (map entry_of came) (tabled rest ++ logs) e (among_back (tabled rest) logs e log)
      ],
      λ i. elim (among_split (map entry_of came) (tabled rest ++ logs) e i) [
        | inl one ↦ among_front (tabled tables) logs e (among_chosen tables inputs rest e before ((same e).0 one))
        | inr other ↦ elim (among_split (tabled rest) logs e other) [
          | inl stays ↦ among_front (tabled tables) logs e (among_rest tables inputs rest e before stays)
          | inr log ↦ among_back (tabled tables) logs e log
        ]
      ],
    ) in
    let now : SameEntries (tabled outputs ++ (tabled rest ++ logs)) (tabled after ++ logs) = λ e. (
      λ i. elim (among_split (tabled outputs) (tabled rest ++ logs) e i) [
        | inl output ↦ among_front (tabled after) logs e (among_chosen after outputs rest e then output)
        | inr other ↦ elim (among_split (tabled rest) logs e other) [
          | inl stays ↦ among_front (tabled after) logs e (among_rest after outputs rest e then stays)
          | inr log ↦ among_back (tabled after) logs e log
        ]
      ],
      λ i. elim (among_split (tabled after) logs e i) [
        | inl table ↦ elim (among_contents after outputs rest e then table) [
          | inl output ↦ among_front (tabled outputs) (tabled rest ++ logs) e output
          | inr stays ↦ among_back (tabled outputs) (tabled rest ++ logs) e (among_front (tabled rest) logs e stays)
        ]
        | inr log ↦ among_back (tabled outputs) (tabled rest ++ logs) e (among_back (tabled rest) logs e log)
      ],
    ) in
    let merged : AllUpTo p (map entry_of came) = λ e i. bounded e (among_chosen tables inputs rest e before ((same e).0 i)) in
    let newer : AreNewerOrDeep (map entry_of came) (tabled rest ++ logs) deep = λ e other i j is. apart e other ((same e).0 i) j is in
    (same_view (tabled outputs ++ (tabled rest ++ logs)) (tabled after ++ logs) p now).0 contents
    (seen_above (map entry_of came) (tabled outputs) (tabled rest ++ logs) sequences deep p reach contents needed newer kept above merged
    ((same_view (tabled tables ++ logs) (map entry_of came ++ (tabled rest ++ logs)) p was).0 contents view))

-- ---- what the logs have

-- other tables, of which each reader above all that they had sees the same
pub recent_installed : (facts : Facts) (least : ℕ) (tables after : List TableContent) (entries more : List Entry) (logs : List LogContent) (m : Machine) → ((e : Entry) → Among (tabled after) e → Among (tabled tables) e)
    → ((p : ℕ) (contents : Contents) → AllUpTo p (tabled tables) → IsView entries p contents → IsView more p contents)
    → AreRecent facts least tables entries logs m → AreRecent facts least after more logs m
recent_installed facts least tables after entries more logs m fewer alike h = record {
  parts = h.parts;
  from = h.from;
  within = h.within;
  start = h.start;
  spent = h.spent;
  recent = h.recent;
  below = λ e i. elim (among_split (tabled after) (logged h.parts.found) e i) [
    | inl table ↦ h.below e (among_front (tabled tables) (logged h.parts.found) e (fewer e table))
    | inr log ↦ h.below e (among_back (tabled tables) (logged h.parts.found) e log)
  ];
  past = λ k le. alike (h.start + sum_by length (take k (drop h.from m.batches))) (view_at m (h.from + k))
      (λ e i. (let below : e.sequence ≤ h.start = h.below e (among_front (tabled tables) (logged h.parts.found) e i) in omega (arith, below)))
      (h.past k le);
  sure = h.sure;
}
