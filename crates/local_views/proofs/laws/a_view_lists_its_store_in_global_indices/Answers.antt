use Rattle.format_model.specs.Trees.{depth_of}
use Rattle.local_views.specs.ViewLaws.{moved_lists}
use Rattle.local_views.proofs.laws.a_view_lists_its_store_in_global_indices.Goals as goal

pub returns : goal.returns
returns c cut t = moved_lists cut t (depth_of t)
