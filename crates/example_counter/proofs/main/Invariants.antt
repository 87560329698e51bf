use Rattle.example_counter.proofs.main.Given as goal

-- the ledger of `count` is the blank one
abbrev pub ghosts-count : goal.ghosts-count
ghosts-count g a = record { name = a.blank.name; parts = a.blank.parts }
