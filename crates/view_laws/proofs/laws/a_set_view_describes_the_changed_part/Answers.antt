use Rattle.local_views.specs.Views.{cut_of}
use Rattle.view_laws.proofs.SetLemmas.{set_through}
use Rattle.view_laws.proofs.laws.a_set_view_describes_the_changed_part.Goals as goal

pub returns : goal.returns
returns g c v w single outer old new element value is =
    set_through (cut_of v.axis v.cols (g.P.Placement.triples v.place) v.rank) (cut_of w.axis w.cols (g.P.Placement.triples w.place) w.rank) v.store w.store single outer old new element value is
