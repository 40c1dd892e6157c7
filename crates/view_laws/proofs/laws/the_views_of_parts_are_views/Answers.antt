use Rattle.formats.specs.AnyStores.{any_is_tree, any_tree}
use Rattle.formats.proofs.ReachLemmas.{any_reached}
use Rattle.view_laws.proofs.ViewLemmas.{view_at-is_view, views-have_the_values, views-of_parts-are_views}
use Rattle.view_laws.proofs.laws.the_views_of_parts_are_views.Goals as goal

pub returns-clause-views : goal.returns-clause-views
returns-clause-views c = views-of_parts-are_views

pub returns-clause-stores : goal.returns-clause-stores
returns-clause-stores c job entries places ranks rank number s h = view_at-is_view job entries places ranks rank number (any_tree s) (any_is_tree s) (any_reached s) h

pub returns-clause-values : goal.returns-clause-values
returns-clause-values c = views-have_the_values
