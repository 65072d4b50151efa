use Rattle.pager_state.specs.World.{world}
use Rattle.pager_state.proofs.Made.{ready-fine}
use Rattle.pager_state.specs.Steps.{commit_answer}
use Rattle.pager_judge.proofs.Judging.{refused}
use Rattle.pager_commit.proofs.Starting.{begun-told, begun-room, begun-marked, run-begun}
use Rattle.pager_commit.proofs.commit_frames.Goals as goal
use Rattle.pager_commit.specs.CommitStep.{commit_frames_world}

pub run_frames-store-requires : goal.run_frames-store-requires
run_frames-store-requires c =
    let a = c.args in
    let g = a.staging.now in
    let w = world a.pager a.table.now a.log.now a.main.now in
    let e = c.in-Ok.ensures in
    let r = ready-fine g w (begun-told g w a.new_header e.answer_value).right in
    record {
      marks_len = (e.begins.marks_len, begun-room g w a.new_header e.answer_value c.in-Ok.judged e.begins);
      lengths = (record { table = r.0.table; log = r.0.files.log.area }, r.1);
    }

pub returns-in-Ok : goal.returns-in-Ok
returns-in-Ok c =
    let a = c.args in
    let g = a.staging.now in
    let w = world a.pager a.table.now a.log.now a.main.now in
    let e = c.in-Ok.ensures in
    let y = c.in-Ok.judged in
    let b = begun-marked g w a.new_header e.answer_value y e.begins in
    let both = run-begun g w a.new_header e.answer_value y e.begins a.salt (c.run_frames-store.ensures a.main.now b) in
    record { answer_value = both.0; later_after = both.1 }

pub returns-in-Err : goal.returns-in-Err
unfolding commit_answer commit_frames_world
returns-in-Err c =
    let a = c.args in
    let w = world a.pager a.table.now a.log.now a.main.now in
    let r = refused a.staging.now w a.new_header c.in-Err.ensures.answer_value in
    record { answer_value = rw r; later_after = rw r }
