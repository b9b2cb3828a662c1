use Rattle.checks.proofs.listing.SmallNetwork.+follow_walks.Given as goal

abbrev pub decreases-follow_walks : goal.decreases-follow_walks
decreases-follow_walks l = l.left
