use Rattle.worker_pool.proofs.pool.run_pool.Given as goal

abbrev pub ghosts-pool-A-Ledger : goal.ghosts-pool-A-Ledger
ghosts-pool-A-Ledger g a = record { name = a.solves.name; parts = a.solves.parts }

abbrev pub ghosts-pool-B-Ledger : goal.ghosts-pool-B-Ledger
ghosts-pool-B-Ledger g a = record { name = a.seen.name; parts = a.seen.parts }
