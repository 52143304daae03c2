-- The promises of specs/Demand.antt, kept.
use Rattle.fractions.specs.Demand.{GcdIsGreatest, OrdersPoints, LowestTerms, PencilAndPaper}
use Rattle.fractions.proofs.Euclid.{gcd_greatest}
use Rattle.fractions.proofs.Turns.{last_says_lem, lines_few, lines_on_a_chart}
use Rattle.fractions.proofs.Points.{point_itself, point_turned, point_trans, point_alike}
use Rattle.fractions.proofs.LowestTerms.{lowest_lowest, lowest_same, lowest_bounded, whole_lowest, whole_bounded, one_record}

pub gcd_is_greatest : GcdIsGreatest
gcd_is_greatest = gcd_greatest

pub orders_points : OrdersPoints
orders_points = record { itself = point_itself; other_way = point_turned; transitive = point_trans; alike = point_alike; one_record = one_record }

pub lowest_terms : LowestTerms
lowest_terms = record { lowest = lowest_lowest; same = lowest_same; bounded = lowest_bounded; whole = whole_lowest; whole_bounded = whole_bounded }

pub pencil_and_paper : PencilAndPaper
pencil_and_paper = record { answers = last_says_lem; few = lines_few; on_a_chart = lines_on_a_chart }
