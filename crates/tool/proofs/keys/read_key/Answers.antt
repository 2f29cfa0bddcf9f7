use Rattle.tool.proofs.keys.read_key.Goals as goal

pub returns-in-Hex : goal.returns-in-Hex
returns-in-Hex c = rw c.in-Hex.is c.read_bytes.ensures

pub returns-in-Text : goal.returns-in-Text
returns-in-Text c = rw c.in-Text.is c.read_text_word.ensures
