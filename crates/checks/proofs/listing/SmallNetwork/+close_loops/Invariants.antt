use Rattle.checks.proofs.listing.SmallNetwork.+close_loops.Given as goal

abbrev pub decreases-close_loops : goal.decreases-close_loops
decreases-close_loops l = l.left
