mod ExamplesLine
