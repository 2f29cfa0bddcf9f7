mod EntryRows
