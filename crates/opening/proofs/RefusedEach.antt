-- Why an open ends, in each directory that differs in tables alone.
use Rattle.std.proofs.Common.{◌∙◌}
use Rattle.coding.specs.declared.error.DbError.TheVariants as error
use Rattle.store.specs.Files.{Files}
use Rattle.ikey.specs.Orders.{Order}
use Rattle.edits.specs.Names.{name_of}
use Rattle.edits.specs.declared.names.FileName.TheVariants.{Current, Manifest}
use Rattle.recover.specs.Reading.{IsBeyondReading}
use Rattle.directory_writes.specs.Differing.{DiffersInTables}
use Rattle.directory_writes.proofs.SameChanges.{current_other, differs_back, free_too, manifest_other}
use Rattle.opening.specs.internal.OpenedEach.{RefusedEachLaw}
use Rattle.opening.proofs.FoundEach.{empty_too}

beyond_too : (order : Order) (files whole : Files) → DiffersInTables files whole → IsBeyondReading order files → IsBeyondReading order whole
beyond_too order files whole d h = record {
  number = h.number;
  numbered = h.numbered;
  current = d.others (name_of Current) current_other ∙ h.current;
  bytes = h.bytes;
  there = d.others (name_of (Manifest h.number)) (manifest_other h.number h.numbered) ∙ h.there;
  spelled = h.spelled;
}

pub refused_each : RefusedEachLaw
refused_each order mode error.OutOfMemory old new whole d sound why = why
refused_each order mode error.Io old new whole d sound why = why
refused_each order mode error.NoDatabase old new whole d sound why = λ f. ((why f).0, empty_too order old.files whole d (why f).1)
refused_each order mode error.Exists old new whole d sound why = λ f. ((why f).0, d.names (name_of Current) ∙ (why f).1)
refused_each order mode (error.Corrupt file what) old new whole d sound why = absurd (sound tt)
refused_each order mode (error.Unsupported what) old new whole d sound why = λ f. (d.names (name_of Current) ∙ (why f).0, beyond_too order old.files whole d (why f).1)
refused_each order mode error.NumbersSpent old new whole d sound why = λ f m free. why f m (free_too order whole old.files (differs_back old.files whole d) m free)
refused_each order mode _ old new whole d sound why = absurd why
