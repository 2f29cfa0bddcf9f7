use Rattle.std.proofs.Common.{◌∙◌, sym}
use Rattle.edits.specs.Names.{name_of}
use Rattle.edits.specs.declared.names.FileName.TheVariants.{Manifest}
use Rattle.edits.proofs.FileNames.{one_file}
use Rattle.mending.proofs.Saying.{front-of}
use Rattle.mending.proofs.layout.manifest_number.Goals as goal

pub returns-in_default-parse_name-clause-refused : goal.returns-in_default-parse_name-clause-refused
returns-in_default-parse_name-clause-refused c = λ number h.
    c.in_default-parse_name.ensures.none (Manifest number) h.0 (front-of c.args.bytes.now (name_of (Manifest number)) 10 h.1)

pub returns-in_default-file : goal.returns-in_default-file
returns-in_default-file c = record {
  found = tt;
  refused = λ number h.
      let found = c.in-Some.ensures.found in
      c.in_default-file.not-Manifest number (one_file c.in-Some.file (Manifest number) found.0 h.0 (sym found.1 ∙ front-of c.args.bytes.now (name_of (Manifest number)) 10 h.1));
}
