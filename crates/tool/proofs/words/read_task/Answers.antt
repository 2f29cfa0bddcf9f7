use Rattle.std.proofs.Common.{sym}
use Rattle.std.specs.Prelude.{codes}
use Rattle.std.proofs.lemmas.Slice.Eq.{bytes_eq-Decides}
use Rattle.clap.specs.Words.{found_of, rows_of}
use Rattle.tool.specs.declared.task.Task.TheVariants.{Get, Scan, Export, Check, Stats, Dump, Put, Del, Mend, Run, Import, Compact}
use Rattle.tool.proofs.Found.{asks_for}
use Rattle.tool.proofs.words.read_task.Goals as goal

pub returns-then-eq : goal.returns-then-eq
returns-then-eq c =
    let named = (bytes_eq-Decides c.in_ok-name.name.now (codes "get")).0 (sym c.if-eq.ensures) in
    asks_for c.args.matches.now c.in_ok-name.name.now (rows_of (found_of c.in_ok-name.found.now)) (Get c.in_ok-place.place c.in_ok-read_lookup.field-0) c.in_ok-name.ensures.name
    c.in_ok-name.ensures.rows (named, c.in_ok-place.ensures, c.in_ok-read_lookup.ensures)

pub returns-then-eq-2 : goal.returns-then-eq-2
returns-then-eq-2 c =
    let named = (bytes_eq-Decides c.in_ok-name.name.now (codes "scan")).0 (sym c.if-eq-2.ensures) in
    asks_for c.args.matches.now c.in_ok-name.name.now (rows_of (found_of c.in_ok-name.found.now)) (Scan c.in_ok-place.place c.in_ok-read_search.field-0) c.in_ok-name.ensures.name
    c.in_ok-name.ensures.rows (named, c.in_ok-place.ensures, c.in_ok-read_search.ensures)

pub returns-then-eq-3 : goal.returns-then-eq-3
returns-then-eq-3 c =
    let named = (bytes_eq-Decides c.in_ok-name.name.now (codes "export")).0 (sym c.if-eq-3.ensures) in
    asks_for c.args.matches.now c.in_ok-name.name.now (rows_of (found_of c.in_ok-name.found.now)) (Export c.in_ok-place.place c.in_ok-read_bounds.field-0) c.in_ok-name.ensures.name
    c.in_ok-name.ensures.rows (named, c.in_ok-place.ensures, c.in_ok-read_bounds.ensures)

pub returns-then-eq-4 : goal.returns-then-eq-4
returns-then-eq-4 c =
    let named = (bytes_eq-Decides c.in_ok-name.name.now (codes "check")).0 (sym c.if-eq-4.ensures) in
    asks_for c.args.matches.now c.in_ok-name.name.now (rows_of (found_of c.in_ok-name.found.now)) (Check c.in_ok-place.place c.in_ok-read_flag.field-0) c.in_ok-name.ensures.name
    c.in_ok-name.ensures.rows (named, c.in_ok-place.ensures, c.in_ok-read_flag.ensures)

pub returns-then-eq-5 : goal.returns-then-eq-5
returns-then-eq-5 c =
    let named = (bytes_eq-Decides c.in_ok-name.name.now (codes "stats")).0 (sym c.if-eq-5.ensures) in
    asks_for c.args.matches.now c.in_ok-name.name.now (rows_of (found_of c.in_ok-name.found.now)) (Stats c.in_ok-place.place c.in_ok-read_flag-2.field-0) c.in_ok-name.ensures.name
    c.in_ok-name.ensures.rows (named, c.in_ok-place.ensures, c.in_ok-read_flag-2.ensures)

pub returns-then-eq-6 : goal.returns-then-eq-6
returns-then-eq-6 c =
    let named = (bytes_eq-Decides c.in_ok-name.name.now (codes "dump")).0 (sym c.if-eq-6.ensures) in
    asks_for c.args.matches.now c.in_ok-name.name.now (rows_of (found_of c.in_ok-name.found.now)) (Dump c.in_ok-place.place c.in_ok-notation.notation c.in_ok-read_flag-3.field-0) c.in_ok-name.ensures.name
    c.in_ok-name.ensures.rows (named, c.in_ok-place.ensures, c.in_ok-notation.ensures, c.in_ok-read_flag-3.ensures)

pub returns-then-eq-7 : goal.returns-then-eq-7
returns-then-eq-7 c =
    let named = (bytes_eq-Decides c.in_ok-name.name.now (codes "put")).0 (sym c.if-eq-7.ensures) in
    asks_for c.args.matches.now c.in_ok-name.name.now (rows_of (found_of c.in_ok-name.found.now)) (Put c.in_ok-place.place c.in_ok-read_pair.field-0) c.in_ok-name.ensures.name
    c.in_ok-name.ensures.rows (named, c.in_ok-place.ensures, c.in_ok-read_pair.ensures)

pub returns-then-eq-8 : goal.returns-then-eq-8
returns-then-eq-8 c =
    let named = (bytes_eq-Decides c.in_ok-name.name.now (codes "del")).0 (sym c.if-eq-8.ensures) in
    asks_for c.args.matches.now c.in_ok-name.name.now (rows_of (found_of c.in_ok-name.found.now)) (Del c.in_ok-place.place c.in_ok-read_named.field-0) c.in_ok-name.ensures.name
    c.in_ok-name.ensures.rows (named, c.in_ok-place.ensures, c.in_ok-read_named.ensures)

pub returns-then-eq-9 : goal.returns-then-eq-9
returns-then-eq-9 c =
    let named = (bytes_eq-Decides c.in_ok-name.name.now (codes "mend")).0 (sym c.if-eq-9.ensures) in
    asks_for c.args.matches.now c.in_ok-name.name.now (rows_of (found_of c.in_ok-name.found.now)) (Mend c.in_ok-place.place c.in_ok-read_mending.field-0) c.in_ok-name.ensures.name
    c.in_ok-name.ensures.rows (named, c.in_ok-place.ensures, c.in_ok-read_mending.ensures)

pub returns-then-eq-10 : goal.returns-then-eq-10
returns-then-eq-10 c =
    let named = (bytes_eq-Decides c.in_ok-name.name.now (codes "run")).0 (sym c.if-eq-10.ensures) in
    asks_for c.args.matches.now c.in_ok-name.name.now (rows_of (found_of c.in_ok-name.found.now)) (Run c.in_ok-place.place c.in_ok-numbers.numbers c.in_ok-read_turns.field-0) c.in_ok-name.ensures.name
    c.in_ok-name.ensures.rows (named, c.in_ok-place.ensures, c.in_ok-numbers.ensures, c.in_ok-read_turns.ensures)

pub returns-then-eq-11 : goal.returns-then-eq-11
returns-then-eq-11 c =
    let named = (bytes_eq-Decides c.in_ok-name.name.now (codes "import")).0 (sym c.if-eq-11.ensures) in
    asks_for c.args.matches.now c.in_ok-name.name.now (rows_of (found_of c.in_ok-name.found.now)) (Import c.in_ok-place.place c.in_ok-numbers.numbers c.in_ok-read_pieces.field-0) c.in_ok-name.ensures.name
    c.in_ok-name.ensures.rows (named, c.in_ok-place.ensures, c.in_ok-numbers.ensures, c.in_ok-read_pieces.ensures)

pub returns-then-eq-12 : goal.returns-then-eq-12
returns-then-eq-12 c =
    let named = (bytes_eq-Decides c.in_ok-name.name.now (codes "compact")).0 (sym c.if-eq-12.ensures) in
    asks_for c.args.matches.now c.in_ok-name.name.now (rows_of (found_of c.in_ok-name.found.now)) (Compact c.in_ok-place.place c.in_ok-numbers.numbers c.in_ok-level.level c.in_ok-read_flag-4.field-0) c.in_ok-name.ensures.name
    c.in_ok-name.ensures.rows (named, c.in_ok-place.ensures, c.in_ok-numbers.ensures, c.in_ok-level.ensures, c.in_ok-read_flag-4.ensures)
