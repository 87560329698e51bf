mod MadeCalls
