use Rattle.kfs_model.specs.Step.{World, effect, step}
use Rattle.kfs_laws.specs.Worlds.{IsDesk}
use Rattle.kfs_laws.proofs.Outcomes.{settled_is}
use Rattle.kfs_laws.proofs.Desks.{desks}
use Rattle.kfs_laws.proofs.Open.{nodes_of, files_of}
use Rattle.kfs_laws.proofs.Calls.{Keeps, still, keeps}
use Rattle.kfs_laws.proofs.Start.{root_is_whole}
use Rattle.kfs_laws.proofs.each_call_leaves_a_tree_with_its_open_files.Goals as goal

pub returns : goal.returns
returns c = (
  root_is_whole,
  λ k d w call free is.
      let h = settled_is (λ v. Keeps v.tree v.desk) w (effect k d w call) (still k d w free is) (keeps k d w free is call) in
      let after : World = (step k d w call).world in
      record {
        tree = h.tree;
        desk = settled_is (λ v. IsDesk v.desk) w (effect k d w call) is.desk (desks k d w free is.desk call);
        there = nodes_of after h.opens;
        files = files_of after h.opens;
        reached = h.reached;
      },
)
