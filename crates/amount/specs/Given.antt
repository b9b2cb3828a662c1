-- The three given measures.
use Rattle.std.proofs.Common.{lit≤}
use Rattle.amount.specs.Orders.{lex_le}
use Rattle.amount.specs.Lawful.{lex_laws}
use Rattle.amount.specs.declared.seconds.Seconds.{Seconds}
use Rattle.amount.specs.declared.seconds_metres.SecondsMetres.{SecondsMetres}
use Rattle.amount.specs.declared.reversed.Reversed.{Reversed}
use Rattle.amount.specs.Scales.{Scale, reversed}

-- seconds in the usual order
abbrev pub seconds_scale : Scale Seconds
seconds_scale = record { places = 1; some = lit≤ tt; few = lit≤ tt; row = λ x. (x.seconds, tt); at_most = lex_le 1; order = lex_laws 1 }

-- seconds, and metres where the seconds are equal
abbrev pub seconds_metres_scale : Scale SecondsMetres
seconds_metres_scale = record { places = 2; some = lit≤ tt; few = lit≤ tt; row = λ x. (x.seconds, (x.metres, tt)); at_most = lex_le 2; order = lex_laws 2 }

-- seconds with the greater number first
abbrev pub reversed_scale : Scale (Reversed Seconds)
reversed_scale = reversed seconds_scale (λ x. x.0.0)
