use Rattle.outside_tests.proofs.folder_cases.FolderCases.take_back.Goals as goal

pub take_back-requires-clause-new_names : goal.take_back-requires-clause-new_names
take_back-requires-clause-new_names c own = rw c.close.ensures (rw c.shelf.ensures at c.has_any_of.ensures.apart c.if-has_any_of.false)
