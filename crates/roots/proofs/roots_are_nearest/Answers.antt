-- The laws of roots. Assumes nothing.
use Rattle.roots.proofs.FloatRoots.{floats_held, nearest_unique, roots_unique, roots_nearest, special_roots}
use Rattle.roots.proofs.roots_are_nearest.Goals as goal

pub returns : goal.returns
returns c = record { held = floats_held; unique = (nearest_unique, roots_unique); nearest = roots_nearest; special = special_roots }
