-- A reader of a directory that was opened.
use Rattle.std.specs.Prelude.{IsTrue}
use Rattle.ikey.specs.Orders.{Order}
use Rattle.ikey.specs.Views.{Contents, IsView}
use Rattle.store.specs.Files.{Facts}
use Rattle.recover.specs.Directory.{Directory, IsConsistent, entries_in, used_in}
use Rattle.reader.specs.declared.reader.Reader.{Reader}
use Rattle.reader.specs.Readers.{ShowsMap, facts_of}
use Rattle.browse.specs.Browsing.{IsThere}

-- While the store is faithful there is a database, and the reader shows the map of its files.
pub record IsOpen {S K : Type 0} (order : Order) (facts : S → Facts) (reader : Reader S K) : Type 0 where
  pub shows : IsTrue (facts_of facts reader).faithful → (d : Directory) (m : Contents)
      → IsConsistent order (facts_of facts reader).files d → IsView (entries_in d) (used_in d) m
      → ShowsMap order facts reader m
  pub there : IsTrue (facts_of facts reader).faithful → IsThere order (facts_of facts reader).files
