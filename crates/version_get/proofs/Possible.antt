-- What the tables tell of a key is so of all contents that they may have.
use Rattle.std.proofs.Common.{ℕ, IsTrue, Option, Some, None, List, [], ◌∷◌, get_or, map, sym, subst, inl, inr}
use Rattle.std.specs.Cmp.{IsTotalOrder}
use Rattle.std.specs.FinMap.{IsAntisymmetric}
use Rattle.std.specs.List.{AllByRecursion}
use Rattle.cursor.specs.Places.{Cmp}
use Rattle.edits.specs.declared.field.PlacedTable.{PlacedTable}
use Rattle.ikey.specs.declared.entry.Entry.{Entry}
use Rattle.ikey.specs.Entries.{InternalEntry, entry_of}
use Rattle.ikey.specs.Keys.{IsFirstKey}
use Rattle.ikey.specs.Orders.{Order}
use Rattle.ikey.specs.Sources.{IsAnswer, joined}
use Rattle.ikey.specs.Views.{IsUnseen}
use Rattle.recover.specs.internal.Checks.{content_of}
use Rattle.recover.specs.Tables.{InTables, TableContent}
use Rattle.table_access.specs.Possible.{MayBeTable, MayHave}
use Rattle.table_access.specs.Tables.{Seen}
use Rattle.table_access.specs.Telling.{TellsOfKey}
use Rattle.table_access.specs.Values.{IsLookUp}
use Rattle.table_access.proofs.Wholes.{may_be}
use Rattle.table.specs.Frame.{Frame, IsFrame}
use Rattle.version_get.specs.Gets.{MayHaveTablesOf, SaysOfAll, SaysOfEach, TableTells, TablesTell, TellsNothingAt}
use Rattle.version_get.proofs.Getting.{answer_is}
use Rattle.version_laws.specs.Laws.{TableAnswers}
use Rattle.version_laws.specs.Places.{MayHold, table_sources}
use Rattle.version_laws.proofs.Fitting.{may_have}
use Rattle.version_laws.proofs.Levels.{answered, passed}
use Rattle.version_laws.proofs.Walking.{answer_at, unseen_all}

-- what a table tells of a key is so of each list that it may be
abbrev pub ToldForAll : Cmp → Type 0
ToldForAll cmp = (placed : PlacedTable) (file : List ℕ) (frame : Frame) (entries : List InternalEntry) (key : List ℕ) (sequence : ℕ) (value : Option (Option (List ℕ)))
    → IsFrame cmp file frame → MayHave cmp placed file frame entries → TellsOfKey cmp placed key sequence value file → IsLookUp (map entry_of entries) sequence key value

one_of : (P : TableContent → Type 0) (contents : List TableContent) (content : TableContent) → AllByRecursion P contents → InTables contents content → P content
one_of P [] content h i = absurd i
one_of P (c ∷ contents) content h (inl e) = subst P (sym e) h.0
one_of P (c ∷ contents) content h (inr i) = one_of P contents content h.1 i

module _ (order : Order) (o : IsTotalOrder order.cmp) (exact : IsAntisymmetric order.cmp) (told : ToldForAll order.cmp) (old new : Seen) (tables : List PlacedTable) (key : List ℕ) (sequence : ℕ) where
  module _ (t : IsTrue new.facts.faithful) (contents : List TableContent) (has : MayHaveTablesOf order old tables contents) where
    -- one table
    table_says : (placed : PlacedTable) (value : Option (Option (List ℕ))) → TableTells order.cmp old new key sequence placed value → TableAnswers contents placed sequence key value
    table_says placed value tells entries i =
        let may : MayHold (MayBeTable order.cmp) old.facts.files (content_of placed entries) = one_of (MayHold (MayBeTable order.cmp) old.facts.files) contents (content_of placed entries) has.1.may i in
        let one = tells t may.bytes (record { sound = has.0; file_is = may.there }) in
        let look = told placed may.bytes one.0 may.kept key sequence value one.1 (may.held.filled one.0 one.1) one in
        subst (λ (es : List Entry). IsAnswer es sequence key value) (sym may.entries_are) (answer_is (map entry_of may.kept) key sequence value look)

    -- a place where nothing is told
    nothing_at : (target : List ℕ) → IsFirstKey key sequence target → (place : ℕ) → TellsNothingAt order.cmp old new tables key sequence target place → IsUnseen (get_or (table_sources contents) place []) sequence key
    nothing_at target first place (inl none) = passed order tables contents key sequence target place o exact has.1.fit first none
    nothing_at target first place (inr one) = answered order tables contents key sequence target place one.0 None o exact has.1.fit first one.1 (table_says one.0 None one.2)

    all_say : (value : Option (Option (List ℕ))) → TablesTell order.cmp old new tables key sequence value → IsAnswer (joined (table_sources contents)) sequence key value
    all_say None h = unseen_all (table_sources contents) sequence key (λ place. nothing_at h.0 h.1 place (h.2 place))
    all_say (Some value) h =
        answer_at (table_sources contents) h.2.0 sequence key value has.1.fit.searched (λ i less. nothing_at h.0 h.1 i (h.2.4 i less))
        (answered order tables contents key sequence h.0 h.2.0 h.2.1 (Some value) o exact has.1.fit h.1 h.2.2 (table_says h.2.1 (Some value) h.2.3))

  pub says_of_each : (value : Option (Option (List ℕ))) → TablesTell order.cmp old new tables key sequence value → SaysOfEach order old new tables key sequence value
  says_of_each value h t contents has = all_say t contents has value h

  -- and the same of those that they have
  pub says_of_all : (value : Option (Option (List ℕ))) → SaysOfEach order old new tables key sequence value → SaysOfAll order old new tables key sequence value
  says_of_all value says t contents has = says t contents (has.0, may_have (MayBeTable order.cmp) order (λ placed file kept table. may_be order.cmp o placed file kept table) old.facts.files tables contents has.1)
