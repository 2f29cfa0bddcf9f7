use Rattle.std.proofs.Common.{◌∙◌, [], true, false}
use Rattle.store.specs.Files.{Facts, Files, Synced}
use Rattle.store.proofs.MemFiles.{files-clone, synced-clone}
use Rattle.store.proofs.memory.MemStore.copy.Goals as goal

pub returns-clause-copied : goal.returns-clause-copied
returns-clause-copied c =
    let copied = c.in_ok-files.ensures.cases in
    let files = files-clone c.args.self.now.files c.in_ok-files.files copied in
    let synced = synced-clone c.args.self.now.files c.in_ok-files.files copied in
    let facts : Files → Synced → Facts = λ f s. record { files = f; synced = s; calls = []; faithful = true; locked = false; failures = 0; write_failures = 0; denials = 0 } in
    c.of.ensures ∙ (λ i. facts (files i) (synced i))
