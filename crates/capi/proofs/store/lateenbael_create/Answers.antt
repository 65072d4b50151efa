use Rattle.capi.proofs.store.lateenbael_create.Goals as goal

pub returns : goal.returns
returns c =
    let made = c.create.ensures in
    record {
      result_value = rw made.value at c.done_as.ensures;
      table_after = made.table_after;
      log_after = made.log_after;
      main_after = made.main_after;
    }
