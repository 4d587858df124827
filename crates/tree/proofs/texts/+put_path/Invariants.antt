-- The steps fall with each call.
use Rattle.tree.proofs.texts.+put_path.Given as goal

abbrev pub decreases-put_path : goal.decreases-put_path
decreases-put_path l = l.steps
